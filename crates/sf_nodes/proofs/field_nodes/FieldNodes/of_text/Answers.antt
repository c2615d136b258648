use Rattle.sf_nodes.proofs.field_nodes.FieldNodes.of_text.Goals as goal

pub returns : goal.returns
returns c = record {
  value = c.in_ok-field.field;
  only = c.in_ok-field.ensures.parses;
  describes = c.in_ok-of_field.ensures c.args.dialect;
}
