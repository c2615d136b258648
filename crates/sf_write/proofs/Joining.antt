-- How what calls write joins to what a whole text writes.
use Rattle.std.proofs.Common.{◌≡◌, ℕ, ◌+◌, ◌-◌, ◌^◌, ◌<◌, min, List, [], ◌++◌, length}
use Rattle.std.proofs.Common.{Result, Ok, Err, refl, sym, ap, ◌∙◌, arith, length-append}
use Rattle.std.proofs.Common.{append_assoc, zero-add}
use Rattle.std.specs.Fmt.{WritesInCalls}
use Rattle.std.proofs.Output.{writes_in_calls_nil, writes_in_calls_single}
use Rattle.std.proofs.Output.{writes_in_calls_append}
use Rattle.std.proofs.KnownBytes.{Appends-nil, Appends-trans, Appends-kept}
use Rattle.std.proofs.Math.Seq.{take-append_seam}
use Rattle.sf_value.specs.Devices.{SinkState, TakesOnce, RefusesOnce}
use Rattle.sf_write.specs.Writing.{SendsText, SendsPrefix, Writes, WritesText}
use Rattle.sf_write.specs.declared.sending.WriteFault.{WriteFault}

-- no text
pub SendsText-nil : (s : SinkState) (n : ℕ) → n < 2 ^ 64 → SendsText s s n n []
SendsText-nil s n h = record { taken = Appends-nil s.taken; failures = refl; count = omega arith }

-- one call that took bytes
pub sent_once : {a b : SinkState} {n m : ℕ} {t : List ℕ} → TakesOnce a b t
    → m ≡ min (n + length t) (2 ^ 64 - 1) → SendsText a b n m t
sent_once p e = record { taken = p.taken; failures = p.failures; count = e }

-- one call that failed
pub refused_once : {a b : SinkState} {n : ℕ} {t : List ℕ} → n < 2 ^ 64 → 0 < length t
    → RefusesOnce a b → SendsPrefix a b n n t
refused_once {a = a} {n = n} {t = t} h some p = record {
  prefix = [];
  suffix = t;
  mid = a;
  split = refl;
  short = some;
  sends = SendsText-nil a n h;
  failed = p;
}

-- one text after another
pub SendsText-append : {a b c : SinkState} {n m k : ℕ} {t u : List ℕ} → SendsText a b n m t
    → SendsText b c m k u → SendsText a c n k (t ++ u)
SendsText-append {a = a} {b = b} {c = c} {t = t} {u = u} p q = record {
  taken = Appends-trans a.taken b.taken c.taken t u p.taken q.taken;
  failures = cc;
  count = omega (arith, length-append t u);
}

-- a prefix of a text after another text
pub SendsPrefix-append : {a b c : SinkState} {n m k : ℕ} {t u : List ℕ} → SendsText a b n m t
    → SendsPrefix b c m k u → SendsPrefix a c n k (t ++ u)
SendsPrefix-append {t = t} p q = record {
  prefix = t ++ q.prefix;
  suffix = q.suffix;
  mid = q.mid;
  split = ap (λ l. t ++ l) q.split ∙ sym (append_assoc t q.prefix q.suffix);
  short = q.short;
  sends = SendsText-append p q.sends;
  failed = q.failed;
}

-- one text after another, however the second ended
pub Writes-append : {a b : SinkState} {n m : ℕ} {t : List ℕ} (c : SinkState)
    (r : Result ℕ WriteFault) (u : List ℕ) → SendsText a b n m t → Writes b c m r u
    → Writes a c n r (t ++ u)
Writes-append c (Ok k) u p q = SendsText-append p q
Writes-append c (Err e) u p q = SendsPrefix-append p q

-- a prefix of a text is one of a longer text
pub SendsPrefix-longer : {a b : SinkState} {n m : ℕ} {t : List ℕ} (u : List ℕ)
    → SendsPrefix a b n m t
    → SendsPrefix a b n m (t ++ u)
SendsPrefix-longer u p = record {
  prefix = p.prefix;
  suffix = p.suffix ++ u;
  mid = p.mid;
  split = ap (λ l. l ++ u) p.split ∙ append_assoc p.prefix p.suffix u;
  short = let s = p.short in omega (arith, length-append p.suffix u);
  sends = p.sends;
  failed = p.failed;
}

-- from here on, to write what is left is to write all
pub record Unwritten (start now : SinkState) (before written : ℕ) (all left : List ℕ) : Type 0 where
  pub counted : written < 2 ^ 64
  pub finish : (end : SinkState) (r : Result ℕ WriteFault) → Writes now end written r left
      → Writes start end before r all

-- nothing was written yet
pub unwritten_all : (s : SinkState) (n : ℕ) (all : List ℕ) → n < 2 ^ 64 → Unwritten s s n n all all
unwritten_all s n all h = record { counted = h; finish = λ end r w. w }

-- a chunk went out
pub unwritten_less : {start now next : SinkState} {before written after : ℕ}
    {all left chunk : List ℕ}
    (more : List ℕ) → Unwritten start now before written all left → left ≡ chunk ++ more
    → SendsText now next written after chunk → Unwritten start next before after all more
unwritten_less more l e w = record {
  counted = let count = w.count in omega arith;
  finish = λ end r h. l.finish end r (rw e (Writes-append end r more w h));
}

-- nothing is left
pub unwritten_none : {start now : SinkState} {before written : ℕ} {all left : List ℕ}
    → Unwritten start now before written all left → left ≡ [] → SendsText start now before written all
unwritten_none {now = now} {written = written} l e =
    l.finish now (Ok written) (rw e (SendsText-nil now written l.counted))

-- a text from its beginning
pub from_beginning : (a c : SinkState) (r : Result ℕ WriteFault) (text : List ℕ)
    → Writes a c 0 r text → WritesText a c r text
from_beginning a c (Ok n) text p = record {
  taken = p.taken;
  failures = p.failures;
  count = rw (zero-add (length text)) at p.count;
}
from_beginning a c (Err e) text p =
    let count = p.sends.count in
    let whole = length-append p.prefix p.suffix in
    let short = p.short in
    let sizes : length text ≡ length p.prefix + length p.suffix = ap length p.split ∙ whole in
    record {
      taken = λ h. let all : e.written ≡ length p.prefix = omega arith in
          rw (all, p.split, take-append_seam p.prefix p.suffix)
          (Appends-kept a.taken p.mid.taken c.taken p.prefix p.sends.taken p.failed.kept);
      short = omega arith;
      failures = p.failed.failures ∙ ap (λ f. min (f + 1) (2 ^ 64 - 1)) p.sends.failures;
    }

-- from here on, that calls take what is left is that they take all
pub record Uncalled {S : Type 0} (gives : S → List ℕ → S → Type 0) (start now : S)
    (all left : List ℕ) : Type 0 where
  pub finish : (end : S) → WritesInCalls gives now left end → WritesInCalls gives start all end

module _ {S : Type 0} {gives : S → List ℕ → S → Type 0} where
  -- no call was made yet
  pub uncalled_all : {s : S} {all : List ℕ} → Uncalled gives s s all all
  uncalled_all = record { finish = λ end p. p }

  -- a call took a chunk
  pub uncalled_less : {start now next : S} {all left chunk more : List ℕ}
      → Uncalled gives start now all left → left ≡ chunk ++ more → gives now chunk next
      → Uncalled gives start next all more
  uncalled_less {now = now} {next = next} {chunk = chunk} {more = more} l e p = record {
    finish = λ end q. l.finish end (rw e (writes_in_calls_append gives now chunk next more end
        (writes_in_calls_single gives now chunk next p) q));
  }

  -- nothing is left
  pub uncalled_none : {start now : S} {all left : List ℕ} → Uncalled gives start now all left
      → left ≡ [] → WritesInCalls gives start all now
  uncalled_none {now = now} l e = l.finish now (rw e (writes_in_calls_nil gives now))
