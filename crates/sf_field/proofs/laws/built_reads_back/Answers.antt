use Rattle.sf_field.proofs.Normals as normals
use Rattle.sf_field.proofs.laws.built_reads_back.Goals as goal

pub returns-clause-spells : goal.returns-clause-spells
returns-clause-spells c = normals.built_spells

pub returns-clause-text : goal.returns-clause-text
returns-clause-text c = normals.built_is_parsed

pub returns-clause-line : goal.returns-clause-line
returns-clause-line c = normals.built_line_is_parsed
