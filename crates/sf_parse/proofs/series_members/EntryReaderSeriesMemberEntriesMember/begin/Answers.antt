use Rattle.std.proofs.Common.{refl}
use Rattle.sf_value.specs.Grammar.Pairs.{put}
use Rattle.sf_parse.specs.MemberEnds.{with_entry}
use Rattle.sf_parse.specs.Machine.Fields.{dict_series}
use Rattle.sf_parse.proofs.Machine.Fields.{dict_laws}
use Rattle.sf_parse.proofs.WholeParts.{entry_value, inner_member, key_begins}
use Rattle.sf_parse.proofs.WholeMembers.{whole_member}
use Rattle.sf_parse.proofs.series_members.EntryReaderSeriesMemberEntriesMember.begin.Goals as goal

pub returns-in-Some-strip_byte : goal.returns-in-Some-strip_byte
returns-in-Some-strip_byte c =
    let d = c.args.dialect in
    let key = c.in_ok-key.ensures in (
      key.1,
      key_begins _ _ _ key.0 key.1,
      λ inner rest r. whole_member (dict_series d) (dict_laws d) with_entry
          (λ given keyed. put given keyed.0 keyed.1) _ _ _ _ (λ s given. refl) (λ given. refl)
          (entry_value _ _ _ _ _ _ _ key.0 key.1 c.in-Some.ensures
          (inner_member d _ _ _ _ c.in-Some-strip_byte.ensures r)),
    )

pub returns : goal.returns
returns c =
    let d = c.args.dialect in (
      c.in_ok-found.ensures.key,
      c.in_ok-found.ensures.leaf,
      λ ps rest r. whole_member (dict_series d) (dict_laws d) with_entry
          (λ given keyed. put given keyed.0 keyed.1) _ _ _ _ (λ s given. refl) (λ given. refl)
          (c.in_ok-found.ensures.entry _ ps rest c.in_ok-key.ensures.0 r),
    )
