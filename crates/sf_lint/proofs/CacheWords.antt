-- What the words of `--decide`, `--age` and `--target` ask for.
use Rattle.std.proofs.Common.{◌≡◌, ℕ, Bool, true, false, List, Option, Some, None, refl, sym, subst, ◌∙◌}
use Rattle.std.proofs.Common.{Result, Ok, Err}
use Rattle.std.specs.Prelude.{MatchResult, IsErrAnd, codes}
use Rattle.clap.specs.Walk.{Row, Text, all_of, first_of}
use Rattle.sf_tool.specs.CommandLine.{IsGivenAge}
use Rattle.sf_lint.specs.declared.settings.CacheSettings.{CacheSettings}
use Rattle.sf_lint.specs.declared.options.Options.{Options}
use Rattle.sf_lint.specs.declared.options.OptionsFault.{OptionsFault}
use Rattle.sf_lint.specs.declared.options.OptionsFault.TheVariants.{Usage, Help, Version}
use Rattle.sf_lint.specs.declared.options.OptionsFault.TheVariants.{OutOfMemory}
use Rattle.sf_lint.specs.Options.{AreCachesIf, AreGivenCaches, AreGivenOptions, AreTargets}
use Rattle.sf_lint.specs.Options.{IsCachesFault, IsGivenFault, IsOptionsFault, IsTargetsFault}
use Rattle.sf_lint.specs.Options.{is_deciding}

-- a fault of the settings is one of the options
settings-fault-is : (rows : List Row) (fault : OptionsFault) → IsGivenFault rows fault
    → IsOptionsFault rows fault
settings-fault-is rows Usage bad = λ options are. bad options.settings are.0
settings-fault-is rows Help bad = absurd bad
settings-fault-is rows Version bad = absurd bad
settings-fault-is rows OutOfMemory bad = tt

pub settings-fault : (rows : List Row) (fault : OptionsFault) → IsGivenFault rows fault
    → (r : Result Options OptionsFault) → IsErrAnd r (λ e. e ≡ fault)
    → MatchResult r (AreGivenOptions rows) (IsOptionsFault rows)
settings-fault rows fault bad (Ok options) h = absurd h
settings-fault rows fault bad (Err e) h =
    subst (IsOptionsFault rows) (sym h) (settings-fault-is rows fault bad)

-- so is a fault of the caches
caches-fault-is : (rows : List Row) (fault : OptionsFault) → IsCachesFault rows fault
    → IsOptionsFault rows fault
caches-fault-is rows Usage bad = λ options are. bad options.caches are.1
caches-fault-is rows Help bad = absurd bad
caches-fault-is rows Version bad = absurd bad
caches-fault-is rows OutOfMemory bad = tt

pub caches-fault : (rows : List Row) (fault : OptionsFault) → IsCachesFault rows fault
    → (r : Result Options OptionsFault) → IsErrAnd r (λ e. e ≡ fault)
    → MatchResult r (AreGivenOptions rows) (IsOptionsFault rows)
caches-fault rows fault bad (Ok options) h = absurd h
caches-fault rows fault bad (Err e) h =
    subst (IsOptionsFault rows) (sym h) (caches-fault-is rows fault bad)

-- a word that is no age
no-age-if : (rows : List Row) (deciding : Bool)
    → ((age : Option ℕ) → ¬ (IsGivenAge (first_of (codes "age") rows) age))
    → (caches : Option CacheSettings) → ¬ (AreCachesIf rows deciding caches)
no-age-if rows true none (Some caches) are = none caches.age are.0
no-age-if rows true none None are = are
no-age-if rows false none (Some caches) are = are
no-age-if rows false none None are =
    let P : Option Text → Type 0 = λ word. IsGivenAge word None in
    none None (subst P (sym are.0) tt)

pub no-age : (rows : List Row) (fault : OptionsFault)
    → (fault ≡ Usage) × ((age : Option ℕ) → ¬ (IsGivenAge (first_of (codes "age") rows) age))
    → (r : Result (Option CacheSettings) OptionsFault) → IsErrAnd r (λ e. e ≡ fault)
    → MatchResult r (AreGivenCaches rows) (IsCachesFault rows)
no-age rows fault bad (Ok caches) h = absurd h
no-age rows fault bad (Err e) h =
    subst (IsCachesFault rows) (sym (h ∙ bad.0)) (no-age-if rows (is_deciding rows) bad.1)

-- neither decisions nor what belongs to them
no-word : (word : Option Text) → IsGivenAge word None → word ≡ None
no-word None given = refl
no-word (Some word) given = absurd given

given-none : (age : Option ℕ) → IsGivenAge None age → age ≡ None
given-none None given = refl
given-none (Some seconds) given = absurd given

none-asked : (rows : List Row) (age : Option ℕ) (words : Option (List Text))
    → IsGivenAge (first_of (codes "age") rows) age → all_of (codes "target") rows ≡ words
    → ¬ ((age ≡ None) × (words ≡ None)) → (caches : Option CacheSettings)
    → ¬ (AreCachesIf rows false caches)
none-asked rows age words given targets some (Some caches) are = are
none-asked rows age words given targets some None are =
    let P : Option Text → Type 0 = λ word. IsGivenAge word age in
    some (given-none age (subst P are.0 given), sym targets ∙ are.1)

pub not-asked : (rows : List Row) (age : Option ℕ) (words : Option (List Text))
    → is_deciding rows ≡ false → IsGivenAge (first_of (codes "age") rows) age
    → all_of (codes "target") rows ≡ words → (r : Result (Option CacheSettings) OptionsFault)
    → MatchResult r (λ caches. (caches ≡ None) × (age ≡ None) × (words ≡ None))
    (λ fault. (fault ≡ Usage) × ¬ ((age ≡ None) × (words ≡ None)))
    → MatchResult r (AreGivenCaches rows) (IsCachesFault rows)
not-asked rows age words not given targets (Ok caches) h =
    let P : Option ℕ → Type 0 = λ age. IsGivenAge (first_of (codes "age") rows) age in
    let none : AreCachesIf rows false None =
    (no-word (first_of (codes "age") rows) (subst P h.1 given), targets ∙ h.2) in
    rw not (subst (AreCachesIf rows false) (sym h.0) none)
not-asked rows age words not given targets (Err e) h =
    let bad : IsCachesFault rows Usage =
    rw not (none-asked rows age words given targets h.1) in
    subst (IsCachesFault rows) (sym h.0) bad

-- a fault of the targets is one of the caches
targets-if : (rows : List Row) (words : Option (List Text)) → is_deciding rows ≡ true
    → all_of (codes "target") rows ≡ words
    → ((names : List Text) → ¬ (AreTargets words names)) → (caches : Option CacheSettings)
    → ¬ (AreCachesIf rows true caches)
targets-if rows words asked given bad (Some caches) are =
    let P : Option (List Text) → Type 0 = λ ws. AreTargets ws caches.targets.items in
    bad caches.targets.items (subst P given are.1)
targets-if rows words asked given bad None are = are

targets-fault-is : (rows : List Row) (words : Option (List Text)) → is_deciding rows ≡ true
    → all_of (codes "target") rows ≡ words → (fault : OptionsFault) → IsTargetsFault words fault
    → IsCachesFault rows fault
targets-fault-is rows words asked given Usage bad = rw asked (targets-if rows words asked given bad)
targets-fault-is rows words asked given Help bad = absurd bad
targets-fault-is rows words asked given Version bad = absurd bad
targets-fault-is rows words asked given OutOfMemory bad = tt

pub targets-fault : (rows : List Row) (words : Option (List Text)) → is_deciding rows ≡ true
    → all_of (codes "target") rows ≡ words → (fault : OptionsFault) → IsTargetsFault words fault
    → (r : Result (Option CacheSettings) OptionsFault) → IsErrAnd r (λ e. e ≡ fault)
    → MatchResult r (AreGivenCaches rows) (IsCachesFault rows)
targets-fault rows words asked given fault bad (Ok caches) h = absurd h
targets-fault rows words asked given fault bad (Err e) h =
    subst (IsCachesFault rows) (sym h) (targets-fault-is rows words asked given fault bad)

-- decisions of caches with these targets and this age
pub some-caches : (rows : List Row) (words : Option (List Text)) (caches : CacheSettings)
    → is_deciding rows ≡ true → all_of (codes "target") rows ≡ words
    → IsGivenAge (first_of (codes "age") rows) caches.age
    → AreTargets words caches.targets.items → AreGivenCaches rows (Some caches)
some-caches rows words caches asked given age targets =
    let P : Option (List Text) → Type 0 = λ ws. AreTargets ws caches.targets.items in
    rw asked (age, subst P (sym given) targets)
