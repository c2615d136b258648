use Rattle.std.proofs.Common.{◌≡◌, take}
use Rattle.sf_c.specs.Selecting.{AreIgnored}
use Rattle.sf_c.proofs.select.select.Given as goal

-- each field so far is ignored, and nothing was written
abbrev pub invariant-loop-place : goal.invariant-loop-place
invariant-loop-place l = record {
  ignored : AreIgnored l.dialect l.texts (take l.place l.fields);
  rules_kept : l.rules ≡ l.fn.rules;
  index_kept : l.index ≡ l.fn.index;
}
