-- The value that a member is added to at its end.
use Rattle.std.specs.Option.{option_map}
use Rattle.std.specs.Prelude.{◌≡◌, [], ◌∷◌, ◌++◌, List, Option, Some, None, is_some, refl}
use Rattle.sf_value.specs.declared.value.Member.{Member}
use Rattle.sf_value.specs.Grammar.Pairs.{Pairs, put}
use Rattle.sf_parse.specs.Machine.Members.{MemberState, member_finish}
use Rattle.sf_parse.specs.Machine.Entries.{EntryState, entry_finish}

-- the members of a List, then the open one, if it may end
abbrev pub with_member : MemberState → List Member → Option (List Member)
with_member s ms = option_map (λ m. ms ++ m ∷ []) (member_finish s)

-- the members of a Dictionary, with the open one put among them, if it may end
abbrev pub with_entry : EntryState → Pairs Member → Option (Pairs Member)
with_entry s ps = option_map (λ p. put ps p.0 p.1) (entry_finish s)

-- a map of an Option keeps whether there is a value
pub some_map : {S T : Type 0} (f : S → T) (o : Option S) → is_some (option_map f o) ≡ is_some o
some_map f (Some s) = refl
some_map f None = refl
