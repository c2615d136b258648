-- Items that are scanned, and the nodes that describe them.
use Rattle.std.proofs.Common.{◌≡◌, ℕ, ◌+◌, List, ◌∷◌, ◌++◌, length, refl, sym, ap, ◌∙◌, subst}
use Rattle.std.proofs.Common.{append_assoc}
use Rattle.sf_value.specs.declared.dialect.Dialect.{Dialect}
use Rattle.sf_value.specs.Grammar.Items.{item}
use Rattle.sf_view.specs.declared.bare_part.Part.{Part}
use Rattle.sf_view.specs.declared.item.KeyPlace.{KeyPlace}
use Rattle.sf_view.specs.declared.node.Node.{Node}
use Rattle.sf_view.specs.declared.node_types.Role.{Role}
use Rattle.sf_view.specs.View.{slice_at, DescribesBare}
use Rattle.sf_view.specs.Scans.{ScansBare, ScansRest, ScansItem, node_from, sized}
use Rattle.sf_view.proofs.Ends.{end_further}
use Rattle.sf_view.proofs.Params.{node_describes}

pub item_scans : (d : Dialect) (source text behind rest : List ℕ) (r : Role) (place : KeyPlace)
    (p : Part) (n : Node) (old new : List Node) (at count : ℕ)
    → ScansBare d (length source) text p behind → n ≡ node_from r place p
    → ScansRest d source behind rest n old new at count
    → ScansItem d source text rest r place old new at count
item_scans d source text behind rest r place p n old new at count b is s =
    let m = sized (1 + length s.nodes) n in record {
      prefix = b.prefix ++ s.prefix;
      value = item b.value s.values;
      nodes = m ∷ s.nodes;
      split =
          b.split ∙ ap (λ y. b.prefix ++ y) s.split ∙ sym (append_assoc b.prefix s.prefix rest);
      spelled = λ i.
          let j = end_further source text b.prefix behind i b.split in
          (b.prefix, s.prefix, refl, b.spelled, s.spelled j);
      puts = s.puts;
      describes = λ i w.
          let j = end_further source text b.prefix behind i b.split in (
            m,
            s.nodes,
            refl,
            subst
                (λ y. DescribesBare d source r (slice_at place.at place.length source)
                (1 + length s.nodes) (sized (1 + length s.nodes) y) b.value) (sym is)
                (node_describes d source r (1 + length s.nodes) (slice_at place.at place.length source) place p
                b.value (b.describes source i refl) w refl),
            s.describes j,
          );
    }
