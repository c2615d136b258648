-- How a reader of members with commas goes on, and that it is the machine's.
use Rattle.std.specs.Option.{option_and_then, option_map}
use Rattle.std.proofs.Common.{◌≡◌, ℕ, true, Option, Some, None, refl, ap, ◌∙◌}
use Rattle.sf_value.specs.Grammar.Classes.{is_sp, is_ows}
use Rattle.sf_parse.specs.Machine.Language.{onward}
use Rattle.sf_parse.specs.Machine.Series.{SeriesState, Begin, InMember, Gap, Comma, gap_step}
use Rattle.sf_parse.specs.Machine.Series.{series_finish}
use Rattle.sf_parse.specs.SeriesView.{series_next, series_end}

module _ {S V : Type 0} (first : ℕ → Option S) (next : S → ℕ → Option S)
    (added : S → V → Option V) (none : V) where
  pub space_stays : (b : ℕ) → is_sp b ≡ true → series_next first next added none Begin b
      ≡ Some Begin
  space_stays b h = rw h refl

  pub gap_stays : (given : V) (b : ℕ) → is_ows b ≡ true
      → series_next first next added none (Gap given) b ≡ Some (Gap given)
  gap_stays given b h = rw h refl

  pub comma_stays : (given : V) (b : ℕ) → is_ows b ≡ true
      → series_next first next added none (Comma given) b ≡ Some (Comma given)
  comma_stays given b h = rw h refl

  pub member_goes_on : (given : V) (s t : S) (b : ℕ) → next s b ≡ Some t
      → series_next first next added none (InMember given s) b ≡ Some (InMember given t)
  member_goes_on given s t b e =
      ap (λ o. onward (InMember given) o (added s given) (λ more. gap_step more b)) e

map_is : {X Y : Type 0} (f : X → Y) (o : Option X) → option_map f o
    ≡ option_and_then (λ x. Some (f x)) o
map_is f None = refl
map_is f (Some x) = refl

pub end_is : {S X V : Type 0} (finish : S → Option X) (none : V) (add : V → X → V)
    (added : S → V → Option V)
    → ((s : S) (given : V) → added s given ≡ option_map (add given) (finish s))
    → (s : SeriesState S V) → series_end added none s ≡ series_finish finish none add s
end_is finish none add added h Begin = refl
end_is finish none add added h (InMember given s) = h s given ∙ map_is (add given) (finish s)
end_is finish none add added h (Gap given) = refl
end_is finish none add added h (Comma given) = refl
