-- Texts put one after another: a fault of an earlier one is the answer of all.
use Rattle.std.proofs.Common.{◌≡◌, ℕ, List, [], ◌++◌}
use Rattle.std.proofs.Common.{Result, Ok, Err, refl, ◌∙◌, arith}
use Rattle.std.specs.Fmt.{WritesInCalls}
use Rattle.std.specs.Prelude.{IfOk}
use Rattle.std.proofs.Output.{writes_in_calls_nil, writes_in_calls_append}
use Rattle.sf_value.specs.Devices.{SinkState}
use Rattle.sf_write.specs.Writing.{Follows, SendsText}
use Rattle.sf_write.specs.declared.sending.WriteFault.{WriteFault}
use Rattle.sf_write.proofs.Joining.{SendsText-nil, Writes-append, SendsPrefix-longer}

abbrev Sent : Type 0
Sent = Result ℕ WriteFault

module _ {S : Type 0} {gives : S → List ℕ → S → Type 0} where
  calls_then : (a b c : S) (z : Sent) (t u : List ℕ) → WritesInCalls gives a t b
      → IfOk z (λ _. WritesInCalls gives b u c) → IfOk z (λ _. WritesInCalls gives a (t ++ u) c)
  calls_then a b c (Ok k) t u p q = writes_in_calls_append gives a t b u c p q
  calls_then a b c (Err e) t u p q = tt

module _ {S : Type 0} {state : S → SinkState} {gives : S → List ℕ → S → Type 0} where
  nothing_at : (s : S) (x : Sent) → Follows state gives s s x x []
  nothing_at s (Ok n) = record {
    goes_on = SendsText-nil (state s) n;
    stays = tt;
    calls = writes_in_calls_nil gives s;
  }
  nothing_at s (Err e) = record { goes_on = tt; stays = (refl, refl); calls = tt }

  -- no text
  pub nothing : {s : S} {x : Sent} → Follows state gives s s x x []
  nothing {s = s} {x = x} = nothing_at s x

  then_at : (a b c : S) (x y z : Sent) (t u : List ℕ) → Follows state gives a b x y t
      → Follows state gives b c y z u → Follows state gives a c x z (t ++ u)
  then_at a b c (Ok n) (Ok m) z t u p q = record {
    goes_on = λ h. let w : SendsText (state a) (state b) n m t = p.goes_on h in
        let count = w.count in
        Writes-append (state c) z u w (q.goes_on (omega arith));
    stays = tt;
    calls = calls_then a b c z t u p.calls q.calls;
  }
  then_at a b c (Ok n) (Err e) z t u p q = record {
    goes_on = λ h. rw (q.stays.0, q.stays.1) (SendsPrefix-longer u (p.goes_on h));
    stays = tt;
    calls = rw q.stays.1 tt;
  }
  then_at a b c (Err e) y z t u p q =
      let kept = p.stays in
      let same = rw kept.1 at q.stays in
      record { goes_on = tt; stays = (same.0 ∙ kept.0, same.1); calls = rw same.1 tt }

  -- one text and then another
  pub then : {a b c : S} {x y z : Sent} {t u : List ℕ} → Follows state gives a b x y t
      → Follows state gives b c y z u → Follows state gives a c x z (t ++ u)
  then {a = a} {b = b} {c = c} {x = x} {y = y} {z = z} {t = t} {u = u} p q =
      then_at a b c x y z t u p q

-- from here on, to put what is left is to put all
pub record Remains {S : Type 0} (state : S → SinkState) (gives : S → List ℕ → S → Type 0)
    (start now : S) (before sent : Sent) (all left : List ℕ) : Type 0 where
  pub finish : (end : S) (r : Sent) → Follows state gives now end sent r left
      → Follows state gives start end before r all

module _ {S : Type 0} {state : S → SinkState} {gives : S → List ℕ → S → Type 0} where
  -- nothing was put yet
  pub remains_all : {s : S} {x : Sent} {all : List ℕ} → Remains state gives s s x x all all
  remains_all = record { finish = λ end r p. p }

  -- a chunk was put
  pub remains_less : {start now next : S} {before sent after : Sent}
      {all left chunk more : List ℕ} → Remains state gives start now before sent all left
      → left ≡ chunk ++ more → Follows state gives now next sent after chunk
      → Remains state gives start next before after all more
  remains_less l e p = record { finish = λ end r q. l.finish end r (rw e (then p q)) }

  -- nothing is left
  pub remains_none : {start now : S} {before sent : Sent} {all left : List ℕ}
      → Remains state gives start now before sent all left → left ≡ []
      → Follows state gives start now before sent all
  remains_none l e = l.finish _ _ (rw e nothing)
