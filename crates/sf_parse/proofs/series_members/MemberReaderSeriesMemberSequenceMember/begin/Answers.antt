use Rattle.std.proofs.Common.{refl, ◌∷◌, ◌++◌, []}
use Rattle.sf_parse.specs.MemberEnds.{with_member}
use Rattle.sf_parse.specs.Machine.Fields.{list_series}
use Rattle.sf_parse.proofs.Machine.Fields.{list_laws}
use Rattle.sf_parse.proofs.WholeParts.{inner_member, item_member, item_whole}
use Rattle.sf_parse.proofs.WholeMembers.{whole_member}
use Rattle.sf_parse.proofs.series_members.MemberReaderSeriesMemberSequenceMember.begin.Goals as goal

pub returns-in-Some : goal.returns-in-Some
returns-in-Some c =
    let d = c.args.dialect in (
      tt,
      (40, _, c.in-Some.ensures, refl),
      λ inner rest r. whole_member (list_series d) (list_laws d) with_member (λ given keyed. given ++ keyed.1 ∷ [])
          _ _ _ _ (λ s given. refl) (λ given. refl) (inner_member d _ _ _ _ c.in-Some.ensures r),
    )

pub returns : goal.returns
returns c =
    let d = c.args.dialect in (
      tt,
      c.in_ok-leaf.ensures.leaf,
      λ ps rest r. whole_member (list_series d) (list_laws d) with_member (λ given keyed. given ++ keyed.1 ∷ [])
          _ _ _ _ (λ s given. refl) (λ given. refl)
          (item_member d _ _ _ (item_whole d _ _ _ _ ps c.in_ok-leaf.ensures.reads r)),
    )
