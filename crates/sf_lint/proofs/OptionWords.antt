-- What the words of `--field` name.
use Rattle.std.proofs.Common.{◌≡◌, ℕ, ◌+◌, ◌<◌, true, false, List, [], ◌∷◌, ◌++◌, length, take}
use Rattle.std.proofs.Common.{get_or}
use Rattle.std.proofs.Common.{Option, Some, None, refl, ap, ap₂, sym, ◌∙◌, map, arith, inl, inr}
use Rattle.std.proofs.Common.{Result, Ok, Err, ◌⊎◌, subst}
use Rattle.std.specs.Prelude.{MatchResult, IsErrAnd, codes}
use Rattle.std.specs.declared.alloc.Global.{Global}
use Rattle.std.specs.declared.vec.Vec.{Vec}
use Rattle.std.specs.List.{after_first, position_or_len}
use Rattle.std.proofs.lemmas.List.{map-append, map_more, get_or-map, length-map}
use Rattle.clap.proofs.OnLiterals.{clap_on_literals}
use Rattle.clap.specs.Faults.{fault_of, is_simple_and_free}
use Rattle.clap.specs.Simple.{is_simple, matches_of}
use Rattle.clap.specs.Walk.{Row, Text, all_of}
use Rattle.sf_value.specs.declared.value.Kind.{Kind}
use Rattle.sf_value.specs.declared.value.Kind.TheVariants as kind_is
use Rattle.sf_tool.specs.Fields.{is_colon, is_header_name, has_name, name_of, word_of}
use Rattle.sf_lint.specs.declared.settings.CustomField.{CustomField}
use Rattle.sf_lint.specs.declared.settings.Settings.{Settings}
use Rattle.sf_lint.specs.declared.options.Options.{Options}
use Rattle.sf_lint.specs.declared.options.OptionsFault.{OptionsFault}
use Rattle.sf_lint.specs.declared.options.OptionsFault.TheVariants.{Usage, Help, Version}
use Rattle.sf_lint.specs.declared.options.OptionsFault.TheVariants.{OutOfMemory}
use Rattle.sf_tool.specs.CommandLine.{kind_named}
use Rattle.sf_lint.specs.Options.{custom_of, field_with, AreFields, AreGiven}
use Rattle.sf_lint.specs.Options.{AreOptionsOf, AreGivenOptions, IsFaultOf, IsGivenFault}
use Rattle.sf_lint.specs.Options.{IsFieldsFault, IsOptionsFault}
use Rattle.sf_lint.specs.Options.{command_line, field_words}
use Rattle.sf_lint.proofs.Lines.{colon}

pub names : (word name : Text) (kind : Kind) → position_or_len is_colon word < length word
    → is_header_name (word_of word) ≡ true → kind_named (after_first is_colon word) ≡ Some kind
    → name ≡ name_of word → custom_of word ≡ Some (field_with name kind)
names word name kind at good k e =
    let has : has_name word ≡ true = rw (colon word at, good) refl in
    rw (has, k) (ap (λ (n : Text). Some (field_with n kind)) (sym e))

unnamed : (word : Text) → has_name word ≡ false → custom_of word ≡ None
unnamed word not = rw not refl

pub without_name : (word : Text) → position_or_len is_colon word < length word
    → is_header_name (word_of word) ≡ false → custom_of word ≡ None
without_name word at bad = unnamed word (rw (colon word at, bad) refl)

-- one field more
pub fields_more : (words : List Text) (fields : List CustomField) (field : CustomField) (i : ℕ)
    → i < length words → map custom_of (take i words) ≡ map Some fields
    → custom_of (get_or words i []) ≡ Some field
    → map custom_of (take (i + 1) words) ≡ map Some (fields ++ field ∷ [])
fields_more words fields field i lt prefix one =
    map_more custom_of words i [] lt
    ∙ ap₂ (λ xs (x : Option CustomField). xs ++ x ∷ []) prefix one
    ∙ sym (map-append Some fields (field ∷ []))

-- a word names none
pub no_fields : (words : List Text) (i : ℕ) → i < length words
    → custom_of (get_or words i []) ≡ None → (fields : List CustomField)
    → ¬ (AreFields words fields)
no_fields words i lt none fields are =
    let size = ap length are in
    let of_words = length-map words custom_of in
    let of_fields = length-map fields Some in
    let within : i < length fields = omega arith in
    let d = field_with [] kind_is.Item in
    let left : get_or (map custom_of words) i None ≡ None =
    get_or-map custom_of words i [] None lt ∙ none in
    let right : get_or (map Some fields) i None ≡ Some (get_or fields i d) =
    get_or-map Some fields i d None within in
    let both : None ≡ Some (get_or fields i d) =
    sym left ∙ ap (λ (xs : List (Option CustomField)). get_or xs i None) are ∙ right in
    cc

pub fields-fault : (words : List Text) (i : ℕ) → i < length words → (fault : OptionsFault)
    → ((fault ≡ Usage) × (custom_of (get_or words i []) ≡ None)) ⊎ (fault ≡ OutOfMemory)
    → (r : Result (Vec CustomField Global) OptionsFault) → IsErrAnd r (λ e. e ≡ fault)
    → MatchResult r (λ fields. AreFields words fields.items) (IsFieldsFault words)
fields-fault words i lt fault why (Ok fields) h = absurd h
fields-fault words i lt fault (inl why) (Err e) h =
    subst (IsFieldsFault words) (sym (h ∙ why.0)) (no_fields words i lt why.1)
fields-fault words i lt fault (inr why) (Err e) h =
    subst (IsFieldsFault words) (sym (h ∙ why)) tt

-- what a fault of the words of `--field` is of what was given
given-fault-is : (rows : List Row) (words : List Text) → all_of (codes "field") rows ≡ Some words
    → (fault : OptionsFault) → IsFieldsFault words fault → IsGivenFault rows fault
given-fault-is rows words given Usage bad = λ settings are.
    let P : Option (List Text) → Type 0 =
    λ ws. AreFields (field_words ws) settings.fields.items in
    bad settings.fields.items (subst P given are.0)
given-fault-is rows words given Help bad = absurd bad
given-fault-is rows words given Version bad = absurd bad
given-fault-is rows words given OutOfMemory bad = tt

pub given-fault : (rows : List Row) (words : List Text) → all_of (codes "field") rows ≡ Some words
    → (fault : OptionsFault) → IsFieldsFault words fault
    → (r : Result Settings OptionsFault) → IsErrAnd r (λ e. e ≡ fault)
    → MatchResult r (AreGiven rows) (IsGivenFault rows)
given-fault rows words given fault bad (Ok settings) h = absurd h
given-fault rows words given fault bad (Err e) h =
    subst (IsGivenFault rows) (sym h) (given-fault-is rows words given fault bad)

-- the command line is one whose parse clap tells
pub command_line-is_simple : is_simple command_line ≡ true
unfolding clap_on_literals
command_line-is_simple = refl

pub command_line-is_free : is_simple_and_free command_line ≡ true
unfolding clap_on_literals
command_line-is_free = refl

-- what was given is what clap finds in the words
pub options-from : (words : List Text) (rows : List Row) → fault_of command_line words ≡ []
    → rows ≡ matches_of command_line words → (r : Result Options OptionsFault)
    → MatchResult r (AreGivenOptions rows) (IsOptionsFault rows)
    → MatchResult r (AreOptionsOf words) (IsFaultOf words)
options-from words rows none e (Ok options) h =
    (none, subst (λ (rows : List Row). AreGivenOptions rows options) e h)
options-from words rows none e (Err Usage) h = λ options are.
    h options (subst (λ (rows : List Row). AreGivenOptions rows options) (sym e) are.1)
options-from words rows none e (Err Help) h = absurd h
options-from words rows none e (Err Version) h = absurd h
options-from words rows none e (Err OutOfMemory) h = tt
