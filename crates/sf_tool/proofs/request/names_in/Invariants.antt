use Rattle.std.proofs.Common.{◌≡◌, true, map, take}
use Rattle.std.specs.List.{list_all}
use Rattle.http_header.specs.Token.{lowercase}
use Rattle.sf_tool.specs.Fields.{is_header_name}
use Rattle.sf_tool.proofs.request.names_in.Given as goal

abbrev pub invariant-loop-word : goal.invariant-loop-word
invariant-loop-word l = record {
  are_names : list_all is_header_name (take l.word-index (map (λ w. w.now) l.words)) ≡ true;
  names : l.names.items ≡ map lowercase (take l.word-index (map (λ w. w.now) l.words));
}
