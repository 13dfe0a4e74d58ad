-- The statuses that the program of the daemons ends with.
use Rattle.std.specs.Prelude.{ℕ}
use Rattle.hm_daemon.specs.declared.status.NodeStatus.{NodeStatus}
use Rattle.hm_daemon.specs.declared.status.NodeStatus.TheVariants as status

abbrev pub code_of : NodeStatus → ℕ
code_of status.Done = 0
code_of status.NoReply = 1
code_of status.BadWords = 2
code_of (status.BadLine line reason) = 3
code_of status.ReadFault = 4
code_of status.WriteFault = 5
code_of status.TurnsSpent = 6
code_of status.NoMemory = 7
code_of status.SwitchSpent = 8
code_of status.LinkFault = 9
