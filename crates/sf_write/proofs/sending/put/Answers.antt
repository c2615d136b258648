use Rattle.std.proofs.Common.{refl}
use Rattle.sf_write.proofs.sending.put.Goals as goal

pub returns-in-Ok : goal.returns-in-Ok
returns-in-Ok g c = rw c.in-Ok.is (record {
  goes_on = λ _. c.send_all.ensures.writes;
  stays = tt;
  calls = c.send_all.ensures.calls;
})

pub returns-in-Err : goal.returns-in-Err
returns-in-Err g c = rw c.in-Err.is (record { goes_on = tt; stays = (refl, refl); calls = tt })
