-- The machine's state, as contracts see it.
use Rattle.script_machine.specs.declared.phase.Phase.{Phase}
use Rattle.script_machine.specs.declared.phase.Phase.TheVariants as phase
use Rattle.script_machine.specs.Machine.{MachineState, Declaring, Running, Down, Spent}

-- what was declared, the monitors, or the schema of a device that crashed
abbrev pub shown : Phase → MachineState
shown (phase.Declaring declaring) = Declaring declaring
shown (phase.Running running) = Running running
shown (phase.Down down) = Down down
shown phase.Spent = Spent
