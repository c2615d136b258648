-- No byte above 127 may come, and after each text that is read some byte may.
use Rattle.std.proofs.Common.{◌≡◌, ℕ, ◌<◌, true, List, [], ◌∷◌, ◌++◌}
use Rattle.std.proofs.Common.{Option, Some, None, is_some, refl, sym, ap, ◌∙◌, arith}
use Rattle.std.specs.Option.{option_and_then}
use Rattle.sf_value.specs.Grammar.Words.{allow}
use Rattle.sf_value.specs.Grammar.Classes.{is_sp}
use Rattle.sf_value.specs.Grammar.Fields.{list_of, dict_of}
use Rattle.sf_value.specs.Grammar.Lines.{Next}
use Rattle.sf_value.specs.declared.value.Field.TheVariants as field
use Rattle.sf_value.specs.declared.value.Field.{Field}
use Rattle.sf_value.proofs.TextBytes.{is_text, spelled_text}
use Rattle.sf_parse.specs.Machine.Series.{SeriesState, Begin, InMember, Gap, Comma, Series}
use Rattle.sf_parse.specs.Machine.Series.{gap_step, series_step, series_finish}
use Rattle.sf_parse.specs.Machine.Language.{onward}
use Rattle.sf_parse.specs.MemberEnds.{some_map}
use Rattle.sf_parse.specs.Machine.States.{State}
use Rattle.sf_parse.specs.Machine.States.{BeforeItem, InsideItem, AfterItem, InList, InDict}
use Rattle.sf_parse.specs.Machine.Fields.{Residual, list_series, dict_series}
use Rattle.sf_parse.specs.Machine.Fields.{list_finish, dict_finish}
use Rattle.sf_parse.specs.Machine.Items.{item_step, item_finish}
use Rattle.sf_parse.specs.Machine.Tests.{takes, may_end}
use Rattle.sf_parse.specs.StateTests.{NextBelow, SomeNext}
use Rattle.sf_parse.proofs.Machine.Fields.{machine}
use Rattle.sf_parse.proofs.Prefixes.{every_split}
use Rattle.sf_parse.proofs.StateTests.{takes_next}
use Rattle.sf_value.specs.declared.dialect.Dialect.{Dialect}

below : (b : ℕ) → is_text b ≡ true → b < 128
below b h = grind arith

-- a text that spells a field has none
pub next_below : NextBelow
next_below d kind p b (u, v, h) =
    let after = every_split is_text (p ++ b ∷ []) u (spelled_text d kind v _ h) in
    below b (every_split is_text p (b ∷ []) after.0).1.0

-- where the text may end, a space may come
spaced : {S T X Y : Type 0} (into : S → T) (a : Option S) (end : Option X) (f : X → Y)
    (after : X → Option T) → ((x : X) → is_some (after x) ≡ true)
    → is_some (option_and_then (λ x. Some (f x)) end) ≡ true
    → is_some (onward into a end after) ≡ true
spaced into (Some s) end f after h e = refl
spaced into None (Some x) f after h e = h x
spaced into None None f after h e = absurd cc

series_space : {S X V : Type 0} (k : Series S X V) (s : SeriesState S V)
    → is_some (series_finish k.finish k.none k.add s) ≡ true → is_some (series_step k s 32) ≡ true
series_space k Begin e = refl
series_space k (InMember given s) e =
    spaced (InMember given) (k.step s 32) (k.finish s) (k.add given)
    (λ x. gap_step (k.add given x) 32) (λ x. refl) e
series_space k (Gap given) e = refl
series_space k (Comma given) e = refl

space : (d : Dialect) (s : State) → may_end s ≡ true → takes d s 32 ≡ true
space d BeforeItem e = refl
space d (InsideItem s) e = spaced InsideItem (item_step d s 32) (item_finish s) field.Item
    (λ i. allow (is_sp 32) (AfterItem i)) (λ i. refl) e
space d (AfterItem i) e = refl
space d (InList s) e = some_map InList (series_step (list_series d) s 32)
    ∙ series_space (list_series d) s (sym (some_map list_of (list_finish s)) ∙ e)
space d (InDict s) e = some_map InDict (series_step (dict_series d) s 32)
    ∙ series_space (dict_series d) s (sym (some_map dict_of (dict_finish s)) ∙ e)

pub some_next : SomeNext
some_next d kind s p k = let l = (machine d).lives s k.good in go l.text l.value l.whole
  where
    found : (b : ℕ) → takes d s b ≡ true → (b : ℕ) × Next d kind p b
    found b e = let viable = (takes_next d kind s p b k).1 e in
        (b, (next_below d kind p b viable, viable))

    go : (u : List ℕ) (v : Field) → Residual d s u v → (b : ℕ) × Next d kind p b
    go [] v r = found 32 (space d s (ap is_some (((machine d).reads s k.good).ends v r)))
    go (b ∷ u) v r = let t = ((machine d).reads s k.good).taken b u v r in
        found b (ap is_some t.1)
