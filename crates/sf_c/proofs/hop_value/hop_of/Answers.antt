use Rattle.std.proofs.Common.{◌≡◌, ◌||◌, false}
use Rattle.std.proofs.lemmas.Result.{err_from_is_err_and}
use Rattle.sf_c.proofs.GivenHops.{Made, Unmade, no_hop, unmade}
use Rattle.sf_c.proofs.hop_value.hop_of.Goals.{After-is_invalid-4}
use Rattle.sf_c.proofs.hop_value.hop_of.Goals as goal

made : (c : After-is_invalid-4) → Made c.args.bytes.now c.args.hop.now c.name_of-name.result
    c.outcome_of-outcome.result c.key_of-key.result c.detail_of-detail.result
made c = record {
  name = c.name_of-name.ensures;
  outcome = c.outcome_of-outcome.ensures;
  key = c.key_of-key.ensures;
  detail = c.detail_of-detail.ensures;
}

valid : (c : After-is_invalid-4)
    → (((c.is_invalid.result || c.is_invalid-2.result) || c.is_invalid-3.result)
    || c.is_invalid-4.result) ≡ false
    → Unmade c.args.bytes.now c.args.hop.now c.name_of-name.result
    c.outcome_of-outcome.result c.key_of-key.result c.detail_of-detail.result
valid c e = unmade (made c) c.in_ok-ttl.ttl c.in_ok-ttl.ensures.gives (cc)

pub returns-then-invalid : goal.returns-then-invalid
returns-then-invalid c =
    no_hop (made (goal.at.returns-then-invalid c).After-is_invalid-4)
    (let e = c.if-invalid.true in cc)

pub returns-in_err-name : goal.returns-in_err-name
returns-in_err-name c =
    let p = err_from_is_err_and c.from_residual-in_err-name.result
    c.from_residual-in_err-name.ensures.1 in
    let at = (goal.at.returns-in_err-name c).After-is_invalid-4 in
    rw (p.1, p.2) ((valid at c.if-invalid.false).name _ c.in_err-name.was)

pub returns-in_err-outcome : goal.returns-in_err-outcome
returns-in_err-outcome c =
    let p = err_from_is_err_and c.from_residual-in_err-outcome.result
    c.from_residual-in_err-outcome.ensures.1 in
    let at = (goal.at.returns-in_err-outcome c).After-is_invalid-4 in
    rw (p.1, p.2) ((valid at c.if-invalid.false).outcome _ c.in_err-outcome.was)

pub returns-in_err-key : goal.returns-in_err-key
returns-in_err-key c =
    let p = err_from_is_err_and c.from_residual-in_err-key.result
    c.from_residual-in_err-key.ensures.1 in
    let at = (goal.at.returns-in_err-key c).After-is_invalid-4 in
    rw (p.1, p.2) ((valid at c.if-invalid.false).key _ c.in_err-key.was)

pub returns-in_err-detail : goal.returns-in_err-detail
returns-in_err-detail c =
    let p = err_from_is_err_and c.from_residual-in_err-detail.result
    c.from_residual-in_err-detail.ensures.1 in
    let at = (goal.at.returns-in_err-detail c).After-is_invalid-4 in
    rw (p.1, p.2) ((valid at c.if-invalid.false).detail _ c.in_err-detail.was)
