-- What the machine's steps decide for texts.
use Rattle.std.proofs.Common.{◌≡◌, true, Option, Some, None, is_some, refl, ◌↔◌}
use Rattle.sf_parse.specs.Machine.Fields.{step, finish}
use Rattle.sf_parse.specs.StateTests.{TakesNext, EndsText}
use Rattle.sf_parse.proofs.Reaching.{reached_next, reached_end}

some_is : {S : Type 0} (o : Option S) → ((s : S) × (o ≡ Some s)) ↔ (is_some o ≡ true)
some_is (Some s) = (λ k. refl, λ k. (s, refl))
some_is None = (λ k. absurd (cc (k.1)), λ k. absurd cc)

pub takes_next : TakesNext
takes_next d kind s p b k =
    let a = reached_next d kind s p b k in
    let c = some_is (step d s b) in
    (λ h. c.0 (a.0 h), λ h. a.1 (c.1 h))

pub ends_text : EndsText
ends_text d kind s p k =
    let c = some_is (finish s) in (
      λ (v, h). c.0 (v, (reached_end d kind s p v k).0 h),
      λ h. let f = c.1 h in
          (f.0, (reached_end d kind s p f.0 k).1 f.1),
    )
