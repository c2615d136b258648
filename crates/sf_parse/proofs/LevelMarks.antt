-- The sets of bytes of levels, seen from the level above.
use Rattle.std.proofs.Common.{◌≡◌, ℕ, ◌==◌, List, [], ◌^◌, bit_or, Option, Some, None, is_some}
use Rattle.std.proofs.Common.{IsSome, refl, sym}
use Rattle.std.specs.Option.{option_map}
use Rattle.sf_value.specs.declared.dialect.Dialect.{Dialect}
use Rattle.sf_value.specs.declared.value.Bare.{Bare}
use Rattle.sf_value.specs.declared.value.Item.{Item}
use Rattle.sf_value.specs.Grammar.Classes.{is_sp}
use Rattle.sf_value.specs.Grammar.Words.{allow}
use Rattle.sf_parse.specs.Expected.{MarksStep}
use Rattle.sf_parse.specs.Machine.Bares.{BareState, bare_start}
use Rattle.sf_parse.specs.Machine.Params.{ParamsState, Between, params_step}
use Rattle.sf_parse.specs.Machine.Items.{ItemState, InBare, InParams, item_step}
use Rattle.sf_parse.specs.Machine.Members.{MemberState, InOne, InMany, member_step}
use Rattle.sf_parse.specs.Machine.Inners.{BetweenItems, InItem, Closing}
use Rattle.sf_parse.specs.Machine.Entries.{InFlag, entry_step}
use Rattle.sf_parse.specs.Machine.States.{BeforeItem, InsideItem, AfterItem}
use Rattle.sf_parse.specs.Machine.Fields.{step}
use Rattle.sf_parse.specs.ItemView.{with_params}
use Rattle.sf_parse.specs.MemberView.{closing_of, IsInParams}
use Rattle.sf_parse.specs.EntryView.{flag_at, IsFlag}
use Rattle.sf_parse.specs.ItemFieldView.{after_of}
use Rattle.sf_parse.proofs.Marks.{marks_steps, marks_same, marks_map, marks_either}

pub marks_params : (d : Dialect) (o : Option Bare) (s : BareState) (ps : ParamsState) (x : ℕ)
    → IsSome o → MarksStep x (params_step d ps) → MarksStep x (item_step d (with_params o s ps))
marks_params d (Some v) s ps x k h = marks_map (InParams v) x (params_step d ps) h
marks_params d None s ps x k h = absurd cc

twice : {S T U V : Type 0} (f : S → T) (g : T → U) (h : S → V) (o : Option S)
    → is_some (option_map g (option_map f o)) ≡ is_some (option_map h o)
twice f g h (Some s) = refl
twice f g h None = refl

pub marks_closing : (d : Dialect) (is : List Item) (s : ItemState) (x : ℕ) → IsInParams s
    → MarksStep x (item_step d s) → MarksStep x (member_step d (InMany (closing_of is s)))
marks_closing d is (InBare s) x k h = absurd k
marks_closing d is (InParams v s) x k h =
    marks_same x _ _ (λ b. twice (Closing is) InMany (InParams v) (params_step d s b)) h

pub marks_items : (d : Dialect) (is : List Item) (x : ℕ) → MarksStep x (bare_start d)
    → MarksStep (bit_or (2 ^ 32) (bit_or (2 ^ 41) x)) (member_step d (InMany (BetweenItems is)))
marks_items d is x h =
    marks_map InMany _ _ (marks_either (2 ^ 32) _ (λ b. allow (is_sp b) (BetweenItems is)) _
    (marks_steps (2 ^ 32) (λ b. allow (is_sp b) (BetweenItems is)) refl)
    (marks_either (2 ^ 41) x (λ b. allow (b == 41) (Closing is (Between []))) _
    (marks_steps (2 ^ 41) (λ b. allow (b == 41) (Closing is (Between []))) refl)
    (marks_map (InItem is) x _ (marks_map InBare x (bare_start d) h))))

pub marks_flag : (d : Dialect) (key : List ℕ) (s : MemberState) (x : ℕ) → IsFlag s
    → MarksStep x (member_step d s) → MarksStep x (entry_step d (flag_at key s))
marks_flag d key (InOne (InBare s)) x k h = absurd k
marks_flag d key (InOne (InParams v s)) x k h =
    marks_same x _ _ (λ b. sym (twice (InParams v) InOne (InFlag key) (params_step d s b))) h
marks_flag d key (InMany s) x k h = absurd k

pub marks_before : (d : Dialect) (x : ℕ) → MarksStep x (bare_start d)
    → MarksStep (bit_or (2 ^ 32) x) (step d BeforeItem)
marks_before d x h =
    marks_either (2 ^ 32) x (λ b. allow (is_sp b) BeforeItem) _
    (marks_steps (2 ^ 32) (λ b. allow (is_sp b) BeforeItem) refl)
    (marks_map InsideItem x _ (marks_map InBare x (bare_start d) h))

pub marks_after : (d : Dialect) (o : Option Item) → IsSome o
    → MarksStep 4294967296 (step d (after_of o))
marks_after d (Some i) k = marks_steps 4294967296 (step d (AfterItem i)) refl
marks_after d None k = absurd cc
