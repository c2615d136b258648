-- A first argument that is no option and no command: clap finds a fault in it.
use Rattle.std.proofs.Common.{◌≡◌, ◌==◌, inl, inr, false, List, [], ◌∷◌, Option, Some, None}
use Rattle.std.proofs.Common.{refl, sym, subst, ap, ◌∙◌, codes, rules, bytes_eq}
use Rattle.std.specs.Prelude.{Bool, find, if◌then◌else◌, option_and_then, option_map}
use Rattle.std.proofs.lemmas.Bool.{cases_Bool}
use Rattle.std.proofs.lemmas.Slice.Eq.{bytes_eq-Decides}
use Rattle.std.specs.Option.{option_map_or}
use Rattle.clap.specs.Faults.{built_fault, bundle_fault, fault_of, flag_word_fault, other_fault}
use Rattle.clap.specs.Faults.{positional_fault, step_fault, stray_fault, turn_fault}
use Rattle.clap.specs.Faults.{walk_fault}
use Rattle.clap.specs.Kinds.{Kinds, or_else}
use Rattle.clap.specs.Lexer.{long_of, long_of_rest, short_of_rest, strip_byte}
use Rattle.clap.specs.Simple.{App, Shape, built, names_of}
use Rattle.clap.specs.Walk.{Held, Names, Rule, Text, answers_to, arg_by_index, nothing_held}
use Rattle.clap.specs.Walk.{Step, idle, trailing, long_or_other, short_or_plain}
use Rattle.clap.specs.Walk.{subcommand_or_other, walk_from}
use Rattle.clap.specs.declared.error.kind.ErrorKind.TheVariants as error_kind
use Rattle.clap.proofs.OnLiterals.{clap_on_literals}
use Rattle.sf_tool.specs.CommandLine.{command_line, IsCommand, IsOption, IsStray}

-- a word that names no subcommand, is no option and goes to no positional
turn-stray : (s : Shape) (names : Names) (h : Held) (word : Text)
    → find (answers_to word) names ≡ None → bytes_eq word (45 ∷ 45 ∷ []) ≡ false
    → strip_byte 45 word ≡ None → arg_by_index s.rules 1 ≡ None
    → turn_fault s names (walk_from h) word ≡ stray_fault s
turn-stray s names h word none dashes plain index =
    let at : Held × Step → Kinds = λ met. step_fault s 1 met.0 met.1 in
    let named : Option (Text × List Text) → Kinds =
    λ o. or_else (other_fault s (option_map (λ n. n.0) o) word h)
    (at (subcommand_or_other s.rules (option_map (λ n. n.0) o) idle 1 word h)) in
    let dashed : Bool → Kinds =
    λ b. or_else
    (if b then [] else flag_word_fault s.rules s.args_override_self (long_of word) word h)
    (at (if b then (h, trailing 1) else long_or_other s.rules idle word (long_of word) h)) in
    let long : Option Text → Kinds =
    λ rest. or_else
    (flag_word_fault s.rules s.args_override_self
    (option_and_then long_of_rest (option_and_then (strip_byte 45) rest)) word h)
    (at (long_or_other s.rules idle word
    (option_and_then long_of_rest (option_and_then (strip_byte 45) rest)) h)) in
    let short : Option Text → Kinds =
    λ rest. or_else
    (option_map_or (λ flags. bundle_fault s.rules s.args_override_self flags h)
    (option_and_then short_of_rest rest) [])
    (at (short_or_plain s.rules idle word (option_and_then short_of_rest rest) h)) in
    let value : Option Rule → Kinds =
    λ found. option_map_or (λ a. positional_fault s.rules s.args_override_self a h) found
    (stray_fault s) in
    ap named none ∙ ap dashed dashes ∙ ap long plain ∙ ap short plain ∙ ap value index

empty-first : (x y : Kinds) → or_else x y ≡ [] → x ≡ []
empty-first [] y none = refl
empty-first (k ∷ ks) y none = absurd (let e : k ∷ ks ≡ [] = none in cc)

-- where it is the first word
first-stray : (a : App) (word : Text) (rest : List Text)
    → turn_fault a.top (names_of a) (walk_from nothing_held) word ≡ stray_fault a.top
    → a.top.is_leaf ≡ false → built_fault a nothing_held (word ∷ rest) ≡ [] → ⊥
unfolding walk_fault
first-stray a word rest turn leaf none =
    let first : walk_fault a.top (names_of a) (walk_from nothing_held) (word ∷ rest) ≡ [] =
    empty-first _ _ none in
    let at-word : turn_fault a.top (names_of a) (walk_from nothing_held) word ≡ [] =
    empty-first _ _ first in
    let stray : stray_fault a.top ≡ [] = sym turn ∙ at-word in
    let kinds = rw leaf at stray in
    cc

differs : (a b : Text) → ¬ (b ≡ a) → bytes_eq a b ≡ false
differs a b apart =
    elim (cases_Bool (bytes_eq a b)) [
      | inl t ↦ (absurd (apart (sym ((bytes_eq-Decides a b).0 t))))
      | inr f ↦ f
    ]

plain-word : (word : Text) → ¬ (IsOption word) → strip_byte 45 word ≡ None
plain-word [] plain = refl
plain-word (x ∷ xs) plain =
    elim (cases_Bool (x == 45)) [
      | inl t ↦ (
          let is : x ≡ 45 = search (rules, t) in
          absurd (plain (ap (λ b. Some b) is))
          )
      | inr f ↦ (rw f refl)
    ]

no-dashes : (word : Text) → ¬ (IsOption word) → bytes_eq word (45 ∷ 45 ∷ []) ≡ false
no-dashes word plain =
    differs word (45 ∷ 45 ∷ [])
    (λ e. plain (let P : Text → Type 0 = λ w. IsOption w in subst P e refl))

no-name : (word : Text) → ¬ (IsCommand word) → bytes_eq (codes "help") word ≡ false
    → find (answers_to word) (names_of (built command_line)) ≡ None
unfolding clap_on_literals
no-name word other help =
    let show = differs (codes "show") word (λ e. other (inl e)) in
    let check = differs (codes "check") word (λ e. other (inr (inl e))) in
    let normalise = differs (codes "normalise") word (λ e. other (inr (inr (inl e)))) in
    let caches = differs (codes "cache-status") word (λ e. other (inr (inr (inr (inl e))))) in
    let targeted = differs (codes "targeted") word
    (λ e. other (inr (inr (inr (inr (inl e)))))) in
    let priority = differs (codes "priority") word
    (λ e. other (inr (inr (inr (inr (inr e)))))) in
    rw (show, check, normalise, caches, targeted, priority, help) refl

top-is-no-leaf : (built command_line).top.is_leaf ≡ false
unfolding clap_on_literals
top-is-no-leaf = refl

no-positional : arg_by_index (built command_line).top.rules 1 ≡ None
unfolding clap_on_literals
no-positional = refl

-- clap answers this word with help
help-fails : (program : Text) (rest : List Text)
    → fault_of command_line (program ∷ codes "help" ∷ rest) ≡ [] → ⊥
unfolding clap_on_literals
help-fails program rest none =
    let answer : error_kind.DisplayHelp ∷ error_kind.InvalidSubcommand ∷ [] ≡ [] = none in cc

pub stray-fails : (words : List Text) → IsStray words → fault_of command_line words ≡ [] → ⊥
stray-fails [] stray none = stray
stray-fails (program ∷ []) stray none = stray
stray-fails (program ∷ word ∷ rest) stray none =
    elim (cases_Bool (bytes_eq (codes "help") word)) [
      | inl t ↦ (
          let P : Text → Type 0 = λ w. fault_of command_line (program ∷ w ∷ rest) ≡ [] in
          let is : codes "help" ≡ word = (bytes_eq-Decides (codes "help") word).0 t in
          help-fails program rest (subst P (sym is) none)
          )
      | inr f ↦ (
          let app = built command_line in
          first-stray app word rest
          (turn-stray app.top (names_of app) nothing_held word (no-name word stray.1 f)
          (no-dashes word stray.0) (plain-word word stray.0) no-positional)
          top-is-no-leaf none
          )
    ]
