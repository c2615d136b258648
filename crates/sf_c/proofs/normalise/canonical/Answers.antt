use Rattle.sf_c.proofs.normalise.canonical.Goals as goal

pub returns-in-Ok : goal.returns-in-Ok
returns-in-Ok c = (
  record {
    value = c.in_ok-field.field;
    only = c.in_ok-field.ensures.0;
    canonical = c.in-Ok.ensures.canon;
  },
  c.in_ok-field.ensures.1,
)
