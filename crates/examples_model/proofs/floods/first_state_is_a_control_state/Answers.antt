use Rattle.examples_model.proofs.FirstStates.{first_state}
use Rattle.examples_model.proofs.floods.first_state_is_a_control_state.Goals as goal

pub returns : goal.returns
returns c = λ r sound. first_state r sound
