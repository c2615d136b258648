use Rattle.std.proofs.Common.{refl, ◌+◌, ◌^◌}
use Rattle.sf_value.specs.Grammar.Words.{allow}
use Rattle.sf_value.specs.Grammar.Classes.{is_sp, is_ows}
use Rattle.sf_parse.specs.Machine.Series.{Begin, InMember, Comma, gap_step}
use Rattle.sf_parse.proofs.Marks.{marks_either, marks_map, marks_onward, marks_steps}
use Rattle.sf_parse.proofs.series.SeriesReaderLevel.expected.Goals as goal

pub returns-in-Begin : goal.returns-in-Begin
returns-in-Begin g c =
    rw (← c.self.view_is, c.in-Begin.is)
    (marks_either (2 ^ 32) _ (λ b. allow (is_sp b) Begin) _
    (marks_steps (2 ^ 32) (λ b. allow (is_sp b) Begin) refl)
    (marks_map (InMember g.P.SeriesMember.none) _ (g.P.SeriesMember.first c.args.dialect)
    c.first_bytes.ensures))

pub returns-in-InMember : goal.returns-in-InMember
returns-in-InMember g c =
    let r = c.self.inside in
    rw (
      ← c.self.view_is,
      c.in-InMember.is,
      c.set_if.ensures,
      c.may_end.ensures,
      ← g.met.P.SeriesMember.adds r.member r.given,
    )
    (marks_onward (InMember r.given) _ _ (g.P.Level.next c.args.dialect r.member)
    (g.P.SeriesMember.added r.member r.given) gap_step c.expected.ensures
    (λ more. marks_steps _ (gap_step more) refl))

pub returns-in-Gap : goal.returns-in-Gap
returns-in-Gap g c =
    rw (← c.self.view_is, c.in-Gap.is) (marks_steps _ (gap_step c.self.inside.given) refl)

pub returns-in-Comma : goal.returns-in-Comma
returns-in-Comma g c =
    let given = c.self.inside.given in
    rw (← c.self.view_is, c.in-Comma.is)
    (marks_either (2 ^ 32 + 2 ^ 9) _ (λ b. allow (is_ows b) (Comma given)) _
    (marks_steps (2 ^ 32 + 2 ^ 9) (λ b. allow (is_ows b) (Comma given)) refl)
    (marks_map (InMember given) _ (g.P.SeriesMember.first c.args.dialect)
    c.first_bytes-in-Comma.ensures))
