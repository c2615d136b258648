use Rattle.std.proofs.Common.{◌≡◌, ◌∙◌, length, take, refl, ap, subst, rules}
use Rattle.sf_c.specs.Decodings.{AreDecoded}
use Rattle.sf_c.proofs.ParsedNodes.{scanned_held, uncoded_held}
use Rattle.sf_c.proofs.parse.scan_nodes.Goals as goal

pub returns-then-none_coded-clause-held : goal.returns-then-none_coded-clause-held
returns-then-none_coded-clause-held c =
    let first = c.split_at_mut-prefix.ensures.front in
    let prefix : c.split_at_mut-prefix.result.0.now ≡ take c.in_ok-count.count c.scan_into.new.nodes
    = first_of (cc, search rules) in
    uncoded_held c.args.dialect c.args.kind c.args.text.now c.scan_into.new.nodes
    c.split_at_mut-prefix.result.0.now c.split_at_mut-prefix.result.1.now _ c.args.bytes.now
    c.in_ok-count.count c.nodes_are_few.ensures.nodes c.nodes_are_few.ensures.bytes
    c.nodes_are_theirs.ensures c.in_ok-count.ensures.accepts prefix
    (c.none_coded.ensures c.if-none_coded.true) refl

pub returns-clause-held : goal.returns-clause-held
returns-clause-held c =
    let first = c.split_at_mut-prefix.ensures.front in
    let prefix : c.split_at_mut-prefix.result.0.now ≡ take c.in_ok-count.count c.scan_into.new.nodes
    = first_of (cc, search rules) in
    scanned_held c.args.dialect c.args.kind c.args.text.now c.scan_into.new.nodes
    c.decode_nodes.new.nodes c.split_at_mut-prefix.result.1.now _ c.decode_nodes.new.bytes
    (record { nodes = c.in_ok-count.count; bytes = c.in_ok-used.used })
    c.nodes_are_few.ensures.nodes c.nodes_are_few.ensures.bytes c.nodes_are_theirs.ensures
    c.in_ok-count.ensures.accepts (c.in_ok-used.ensures.same_nodes ∙ ap length prefix)
    (subst
    (λ y. AreDecoded c.args.text.now y c.decode_nodes.new.nodes c.decode_nodes.new.bytes
    c.in_ok-used.used) prefix c.in_ok-used.ensures.decoded) refl
