-- The machine of fields takes the same steps as the reader of a kind.
use Rattle.std.specs.Option.{option_and_then, option_map}
use Rattle.std.specs.Prelude.{◌≡◌, ℕ, List, [], Option, Some, None, is_some}
use Rattle.std.proofs.Common.{refl, sym, ap, ◌∙◌}
use Rattle.sf_value.specs.declared.dialect.Dialect.{Dialect}
use Rattle.sf_value.specs.declared.value.Member.{Member}
use Rattle.sf_value.specs.Grammar.Pairs.{Pairs}
use Rattle.sf_value.specs.Grammar.Fields.{list_of, dict_of}
use Rattle.sf_parse.specs.Machine.Language.{onward}
use Rattle.sf_parse.specs.Machine.Series.{Series, SeriesState, Begin, InMember, Gap, Comma}
use Rattle.sf_parse.specs.Machine.Series.{gap_step, series_step, series_finish}
use Rattle.sf_parse.specs.Machine.Members.{MemberState, member_start, member_step}
use Rattle.sf_parse.specs.Machine.Members.{member_finish}
use Rattle.sf_parse.specs.Machine.Entries.{EntryState, entry_start, entry_step, entry_finish}
use Rattle.sf_parse.specs.Machine.States.{State, InList, InDict}
use Rattle.sf_parse.specs.Machine.Fields.{step, list_series, dict_series}
use Rattle.sf_parse.specs.Machine.Fields.{finish, list_finish, dict_finish}
use Rattle.sf_parse.specs.SeriesView.{series_next, series_end}
use Rattle.sf_parse.specs.MemberEnds.{with_member, with_entry, some_map}

-- mapping the value at the end first or inside `after` gives the same state
onward_map : {S T X V : Type 0} (into : S → T) (o : Option S) (f : X → V) (e : Option X)
    (after : V → Option T) → onward into o (option_map f e) after
    ≡ onward into o e (λ x. after (f x))
onward_map into (Some s) f e after = refl
onward_map into None f (Some x) after = refl
onward_map into None f None after = refl

-- the reader of a series takes the same steps, with the open member added at its end
series_is : {S X V : Type 0} (k : Series S X V) (added : S → V → Option V)
    → ((s : S) (given : V) → added s given ≡ option_map (k.add given) (k.finish s))
    → (s : SeriesState S V) (b : ℕ)
    → series_next k.start k.step added k.none s b ≡ series_step k s b
series_is k added h Begin b = refl
series_is k added h (InMember given s) b =
    ap (λ e. onward (InMember given) (k.step s b) e (λ more. gap_step more b)) (h s given)
    ∙ onward_map (InMember given) (k.step s b) (k.add given) (k.finish s)
    (λ more. gap_step more b)
series_is k added h (Gap given) b = refl
series_is k added h (Comma given) b = refl

-- the steps of an Item
pub item_field_steps : (d : Dialect) (s : State) (b : ℕ) → step d s b ≡ option_map (λ s. s) (step d s b)
item_field_steps d s b = same (step d s b)
  where
    same : (o : Option State) → o ≡ option_map (λ s. s) o
    same None = refl
    same (Some s) = refl

-- the steps of a List
pub list_steps : (d : Dialect) (s : SeriesState MemberState (List Member)) (b : ℕ)
    → step d (InList s) b
    ≡ option_map InList (series_next (member_start d) (member_step d) with_member [] s b)
list_steps d s b = ap (option_map InList)
    (sym (series_is (list_series d) with_member (λ s given. refl) s b))

-- the steps of a Dictionary
pub dict_steps : (d : Dialect) (s : SeriesState EntryState (Pairs Member)) (b : ℕ)
    → step d (InDict s) b
    ≡ option_map InDict (series_next entry_start (entry_step d) with_entry [] s b)
dict_steps d s b = ap (option_map InDict)
    (sym (series_is (dict_series d) with_entry (λ s given. refl) s b))

-- the machine of fields has a value at the end exactly if the reader of the kind has one
some_then : {X V : Type 0} (f : X → V) (o : Option X)
    → is_some (option_map f o) ≡ is_some (option_and_then (λ x. Some (f x)) o)
some_then f (Some x) = refl
some_then f None = refl

end_is : {S X V : Type 0} (finish : S → Option X) (none : V) (add : V → X → V) (s : SeriesState S V)
    → is_some (series_end (λ s given. option_map (add given) (finish s)) none s)
    ≡ is_some (series_finish finish none add s)
end_is finish none add Begin = refl
end_is finish none add (InMember given s) = some_then (add given) (finish s)
end_is finish none add (Gap given) = refl
end_is finish none add (Comma given) = refl

pub list_ends : (s : SeriesState MemberState (List Member))
    → is_some (series_end with_member [] s) ≡ is_some (finish (InList s))
list_ends s = end_is member_finish [] _ s ∙ sym (some_map list_of (list_finish s))

pub dict_ends : (s : SeriesState EntryState (Pairs Member))
    → is_some (series_end with_entry [] s) ≡ is_some (finish (InDict s))
dict_ends s = end_is entry_finish [] _ s ∙ sym (some_map dict_of (dict_finish s))
