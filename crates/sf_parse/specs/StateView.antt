-- The state of the machine for what is read of a field.
use Rattle.sf_parse.specs.Machine.States.{State, InList, InDict}
use Rattle.sf_parse.specs.declared.state.FieldState.{FieldState}
use Rattle.sf_parse.specs.declared.state.FieldState.TheVariants as field

-- the state by the kind of the field
abbrev pub state_of : FieldState → State
state_of (field.Item s) = s
state_of (field.List s) = InList s
state_of (field.Dict s) = InDict s
