-- Fronts of chunks that machines take: none, one after another, and seen from a level above.
use Rattle.std.specs.Option.{option_map}
use Rattle.std.proofs.Common.{◌≡◌, ℕ, Bool, true, false, List, [], ◌∷◌, ◌++◌, length}
use Rattle.std.proofs.Common.{Option, Some, Result, Ok, Err, IfOk, refl, sym, ap, ◌∙◌, subst}
use Rattle.std.proofs.Common.{arith, append_assoc, length-append, ◌≤◌}
use Rattle.std.specs.Borrow.{Bor}
use Rattle.sf_value.specs.Grammar.Words.{Every}
use Rattle.sf_parse.specs.Machine.Language.{run, Steps}
use Rattle.sf_parse.specs.Prefixes.{Goes, FirstIs, Halts, LongestPrefix, unless}
use Rattle.sf_parse.proofs.Machine.Language.{and_then_cases}

pub run_append : {S : Type 0} (next : S → ℕ → Option S) (s t : S) (p q : List ℕ)
    → run next s p ≡ Some t → run next s (p ++ q) ≡ run next t q
run_append next s t [] q e = let k : s ≡ t = cc in ap (λ y. run next y q) k
run_append next s t (b ∷ p) q e =
    let c = and_then_cases (next s b) (λ s'. run next s' p) t e in
    rw c.1 (run_append next c.0 t p q c.2)

-- one prefix after another
pub goes_more : {S : Type 0} (next : S → ℕ → Option S) (s t u : S) (chunk rest more : List ℕ)
    → Goes next s chunk rest t → Goes next t rest more u → Goes next s chunk more u
goes_more next s t u chunk rest more a b = record {
  taken = a.taken ++ b.taken;
  split = a.split ∙ ap (λ r. a.taken ++ r) b.split ∙ sym (append_assoc a.taken b.taken more);
  leads = run_append next s t a.taken b.taken a.leads ∙ b.leads;
}

-- what is taken of the window of a chunk is taken of the chunk
pub goes_window : {S : Type 0} (next : S → ℕ → Option S) (s t : S) (chunk window left rest : List ℕ)
    → Goes next s window left t
    → ((taken : List ℕ) → window ≡ taken ++ left → chunk ≡ taken ++ rest)
    → Goes next s chunk rest t
goes_window next s t chunk window left rest a same =
    record { taken = a.taken; split = same a.taken a.split; leads = a.leads }

-- no more is left than there was
pub left_within : {S : Type 0} (next : S → ℕ → Option S) (s t : S) (chunk rest : List ℕ)
    → Goes next s chunk rest t → length rest ≤ length chunk
left_within next s t chunk rest a =
    let k : length chunk ≡ length (a.taken ++ rest) = ap length a.split in
    omega (arith, length-append a.taken rest)

pub goes_one : {S : Type 0} (next : S → ℕ → Option S) (s t : S) (b : ℕ) (more : List ℕ)
    → next s b ≡ Some t → Goes next s (b ∷ more) more t
goes_one next s t b more e = record { taken = b ∷ []; split = refl; leads = rw e refl }

-- one byte more
pub goes_byte : {S : Type 0} (next : S → ℕ → Option S) (s t u : S) (chunk : List ℕ) (b : ℕ)
    (more : List ℕ) → Goes next s chunk (b ∷ more) t → next t b ≡ Some u → Goes next s chunk more u
goes_byte next s t u chunk b more a e =
    goes_more next s t u chunk (b ∷ more) more a (goes_one next t u b more e)

pub prefix_all : {S : Type 0} (next : S → ℕ → Option S) (s t : S) (chunk : List ℕ)
    → Goes next s chunk [] t → LongestPrefix next s chunk [] t
prefix_all next s t chunk a = record { goes = a; stops = tt }

-- a step in place
pub step_on : {S : Type 0} (next : S → ℕ → Option S) (s t u : S) (chunk : List ℕ) (b : ℕ)
    (more : List ℕ) (took : Bool) → Goes next s chunk (b ∷ more) t → took ≡ true
    → Steps took (next t b) t u → Goes next s chunk more u
step_on next s t u chunk b more true a f e = goes_byte next s t u chunk b more a e
step_on next s t u chunk b more false a f e = absurd cc

pub step_stop : {S : Type 0} (next : S → ℕ → Option S) (s t u : S) (chunk : List ℕ) (b : ℕ)
    (more : List ℕ) (took : Bool) → Goes next s chunk (b ∷ more) t → took ≡ false
    → Steps took (next t b) t u → LongestPrefix next s chunk (b ∷ more) u
step_stop next s t u chunk b more true a f e = absurd cc
step_stop next s t u chunk b more false a f e =
    subst (λ y. LongestPrefix next s chunk (b ∷ more) y) (sym e.1)
    (record { goes = a; stops = e.0 })

-- the same, of the first byte of what is left
pub byte_on : {S : Type 0} (next : S → ℕ → Option S) (s t u : S) (chunk rest : List ℕ) (b : ℕ)
    (more : List ℕ) (took : Bool) → Goes next s chunk rest t → rest ≡ b ∷ more → took ≡ true
    → Steps took (next t b) t u → Goes next s chunk more u
byte_on next s t u chunk rest b more took w e f k =
    step_on next s t u chunk b more took (subst (λ y. Goes next s chunk y t) e w) f k

pub byte_stop : {S : Type 0} (next : S → ℕ → Option S) (s t u : S) (chunk rest : List ℕ) (b : ℕ)
    (took : Bool) → Goes next s chunk rest t → took ≡ false → Steps took (next t b) t u
    → Goes next s chunk rest u
byte_stop next s t u chunk rest b true w f k = absurd cc
byte_stop next s t u chunk rest b false w f k =
    subst (λ y. Goes next s chunk rest y) (sym k.1) w

-- the byte with which the machine stopped is the first of the rest
pub halts_at : {S : Type 0} (next : S → ℕ → Option S) (s t : S) (rest more : List ℕ) (b : ℕ)
    (took : Bool) → rest ≡ b ∷ more → took ≡ false → Steps took (next s b) s t
    → FirstIs (Halts next t) rest
halts_at next s t rest more b true e f k = absurd cc
halts_at next s t rest more b false e f k = rw (e, k.1) k.0

-- what a part takes, seen from a level that goes on with it wherever it goes on itself
run_above : {S T : Type 0} (next : S → ℕ → Option S) (above : T → ℕ → Option T) (into : S → T)
    → ((s t : S) (b : ℕ) → next s b ≡ Some t → above (into s) b ≡ Some (into t))
    → (s t : S) (p : List ℕ) → run next s p ≡ Some t → run above (into s) p ≡ Some (into t)
run_above next above into h s t [] e = let k : s ≡ t = cc in ap (λ y. Some (into y)) k
run_above next above into h s t (b ∷ p) e =
    let c = and_then_cases (next s b) (λ s'. run next s' p) t e in
    rw (h s c.0 b c.1) (run_above next above into h c.0 t p c.2)

pub goes_above : {S T : Type 0} (next : S → ℕ → Option S) (above : T → ℕ → Option T) (into : S → T)
    → ((s t : S) (b : ℕ) → next s b ≡ Some t → above (into s) b ≡ Some (into t))
    → (s t : S) (chunk rest : List ℕ) → Goes next s chunk rest t
    → Goes above (into s) chunk rest (into t)
goes_above next above into h s t chunk rest a = record {
  taken = a.taken;
  split = a.split;
  leads = run_above next above into h s t a.taken a.leads;
}

-- the same, of a call that may fail and leaves some rest, and where the state above is known as x
pub part_above : {S T R E : Type 0} (next : S → ℕ → Option S) (above : T → ℕ → Option T) (into : S
    → T)
    → ((s t : S) (b : ℕ) → next s b ≡ Some t → above (into s) b ≡ Some (into t))
    → (s t : S) (x : T) (chunk : List ℕ) (rest : R → List ℕ) (r : Result R E) → into s ≡ x
    → IfOk r (λ v. LongestPrefix next s chunk (rest v) t)
    → IfOk r (λ v. Goes above x chunk (rest v) (into t))
part_above next above into h s t x chunk rest (Ok v) e a =
    subst (λ y. Goes above y chunk (rest v) (into t)) e
    (goes_above next above into h s t chunk (rest v) a.goes)
part_above next above into h s t x chunk rest (Err k) e a = a

-- what all bytes of a list have, those of each part have
pub every_split : (q : ℕ → Bool) (a b : List ℕ) → Every q (a ++ b) → Every q a × Every q b
every_split q [] b h = (tt, h)
every_split q (x ∷ a) b h = let k = every_split q a b h.1 in ((h.0, k.0), k.1)

-- what follows from each value of a call follows from the call
pub each_ok : {A E : Type 0} {P Q : A → Type 0} → ((a : A) → P a → Q a) → (r : Result A E)
    → IfOk r P → IfOk r Q
each_ok f (Ok a) h = f a h
each_ok f (Err e) h = h

-- an Err is not Ok
pub never : {P : Type 0} → false ≡ true → P
never e = absurd cc

-- nothing is left
pub prefix_none : {S : Type 0} (next : S → ℕ → Option S) (s t : S) (chunk rest : List ℕ)
    → length rest ≡ 0 → Goes next s chunk rest t → LongestPrefix next s chunk rest t
prefix_none next s t chunk [] e a = prefix_all next s t chunk a
prefix_none next s t chunk (b ∷ more) e a = absurd (let k : ⊥ = omega arith in k)

pub first_is : (P : ℕ → Type 0) (xs : List ℕ) (b : ℕ) (more : List ℕ) → xs ≡ b ∷ more
    → FirstIs P xs → P b
first_is P xs b more e h = subst (FirstIs P) e h

-- a turn of the loop: the open part went on to a byte that it can't take, and a step is tried
pub turn_on : {S : Type 0} (next : S → ℕ → Option S) (P : ℕ → Type 0) (s t u v : S)
    (chunk rest suffix : List ℕ) (b : ℕ) (more : List ℕ) (took : Bool) → Goes next s chunk rest t
    → Goes next t rest suffix u → FirstIs P suffix → suffix ≡ b ∷ more → took ≡ true
    → (P b → Steps took (next u b) u v) → Goes next s chunk more v
turn_on next P s t u v chunk rest suffix b more took a w h e f k =
    step_on next s u v chunk b more took
    (subst (λ y. Goes next s chunk y u) e (goes_more next s t u chunk rest suffix a w)) f
    (k (first_is P suffix b more e h))

pub turn_stop : {S : Type 0} (next : S → ℕ → Option S) (P : ℕ → Type 0) (s t u v : S)
    (chunk rest suffix : List ℕ) (b : ℕ) (more : List ℕ) (took : Bool) → Goes next s chunk rest t
    → Goes next t rest suffix u → FirstIs P suffix → suffix ≡ b ∷ more → took ≡ false
    → (P b → Steps took (next u b) u v) → LongestPrefix next s chunk suffix v
turn_stop next P s t u v chunk rest suffix b more took a w h e f k =
    subst (λ y. LongestPrefix next s chunk y v) (sym e)
    (step_stop next s u v chunk b more took
    (subst (λ y. Goes next s chunk y u) e (goes_more next s t u chunk rest suffix a w)) f
    (k (first_is P suffix b more e h)))

-- the same, where the part only went some way
pub part_goes : {S T E : Type 0} (next : S → ℕ → Option S) (above : T → ℕ → Option T) (into : S
    → T)
    → ((s t : S) (b : ℕ) → next s b ≡ Some t → above (into s) b ≡ Some (into t))
    → (s t : S) (x : T) (chunk : List ℕ) (r : Result (Bor (List ℕ)) E) → into s ≡ x
    → IfOk r (λ rest. Goes next s chunk rest.now t)
    → IfOk r (λ rest. Goes above x chunk rest.now (into t))
part_goes next above into h s t x chunk (Ok rest) e a =
    subst (λ y. Goes above y chunk rest.now (into t)) e
    (goes_above next above into h s t chunk rest.now a)
part_goes next above into h s t x chunk (Err k) e a = a

-- where the level goes on just where the part does, it takes just as much
pub prefix_above : {S T : Type 0} (next : S → ℕ → Option S) (above : T → ℕ → Option T) (into : S
    → T)
    → ((s : S) (b : ℕ) → above (into s) b ≡ option_map into (next s b))
    → (s t : S) (chunk rest : List ℕ) → LongestPrefix next s chunk rest t
    → LongestPrefix above (into s) chunk rest (into t)
prefix_above next above into h s t chunk rest a = record {
  goes = goes_above next above into (λ s t b e. h s b ∙ ap (option_map into) e) s t chunk rest
      a.goes;
  stops = by rest a.stops;
}
  where
    by : (xs : List ℕ) → FirstIs (Halts next t) xs → FirstIs (Halts above (into t)) xs
    by [] k = tt
    by (b ∷ xs) k = h t b ∙ ap (option_map into) k

pub all_above : {S T R E : Type 0} (next : S → ℕ → Option S) (above : T → ℕ → Option T) (into : S
    → T)
    → ((s : S) (b : ℕ) → above (into s) b ≡ option_map into (next s b))
    → (s t : S) (chunk : List ℕ) (rest : R → List ℕ) (r : Result R E)
    → IfOk r (λ v. LongestPrefix next s chunk (rest v) t)
    → IfOk r (λ v. LongestPrefix above (into s) chunk (rest v) (into t))
all_above next above into h s t chunk rest (Ok v) a = prefix_above next above into h s t chunk
    (rest v) a
all_above next above into h s t chunk rest (Err k) a = a

-- nothing was taken of a byte
pub goes_none : {S : Type 0} (next : S → ℕ → Option S) (s t : S) (b : ℕ) → t ≡ s
    → Goes next s (b ∷ []) (b ∷ []) t
goes_none next s t b e = record { taken = []; split = refl; leads = ap Some (sym e) }

-- a byte that a step took, or not
pub goes_step : {S : Type 0} (next : S → ℕ → Option S) (s t : S) (b : ℕ) (took : Bool)
    → Steps took (next s b) s t → Goes next s (b ∷ []) (unless took b) t
goes_step next s t b true e = goes_one next s t b [] e
goes_step next s t b false e = goes_none next s t b e.1

-- the open part can't take the byte, and a step is tried
pub push_turn : {S : Type 0} (next : S → ℕ → Option S) (P : ℕ → Type 0) (s t u : S) (b : ℕ)
    (part took : Bool) → Goes next s (b ∷ []) (unless part b) t → FirstIs P (unless part b)
    → part ≡ false → (P b → Steps took (next t b) t u)
    → LongestPrefix next s (b ∷ []) (unless took b) u
push_turn next P s t u b true took w h f k = absurd cc
push_turn next P s t u b false true w h f k =
    prefix_all next s u (b ∷ []) (goes_byte next s t u (b ∷ []) b [] w (k h))
push_turn next P s t u b false false w h f k =
    step_stop next s t u (b ∷ []) b [] false w refl (k h)

-- a step that is tried after the open part
pub push_tried : {S E : Type 0} (next : S → ℕ → Option S) (P : ℕ → Type 0) (s t u : S) (b : ℕ)
    (part : Bool) (r : Result Bool E) → Goes next s (b ∷ []) (unless part b) t
    → FirstIs P (unless part b) → part ≡ false
    → IfOk r (λ took. P b → Steps took (next t b) t u)
    → IfOk r (λ took. LongestPrefix next s (b ∷ []) (unless took b) u)
push_tried next P s t u b part (Ok took) w h f k = push_turn next P s t u b part took w h f k
push_tried next P s t u b part (Err k) w h f e = e

-- what holds of a state and the bytes to come, and with a byte less, holds after those taken
free_run : {S : Type 0} (next : S → ℕ → Option S) (free : S → List ℕ → Type 0)
    → ((s t : S) (b : ℕ) (more : List ℕ) → free s (b ∷ more) → next s b ≡ Some t → free t more)
    → (s t : S) (p rest : List ℕ) → free s (p ++ rest) → run next s p ≡ Some t → free t rest
free_run next free keeps s t [] rest h e = let k : s ≡ t = cc in subst (λ y. free y rest) k h
free_run next free keeps s t (b ∷ p) rest h e =
    let c = and_then_cases (next s b) (λ s'. run next s' p) t e in
    free_run next free keeps c.0 t p rest (keeps s c.0 b (p ++ rest) h c.1) c.2

pub free_goes : {S : Type 0} (next : S → ℕ → Option S) (free : S → List ℕ → Type 0)
    → ((s t : S) (b : ℕ) (more : List ℕ) → free s (b ∷ more) → next s b ≡ Some t → free t more)
    → (s t : S) (chunk rest : List ℕ) → free s chunk → Goes next s chunk rest t → free t rest
free_goes next free keeps s t chunk rest h a =
    free_run next free keeps s t a.taken rest (subst (free s) a.split h) a.leads
