-- The node reader and the pair reader. Both end because the nodes still allowed fall; what each has read is the laws' of `Nodes`.
use Prim.Native.Nat.{◌-◌, ◌*◌, ◌+◌}
use Rattle.shapes.proofs.Progress.+read_node_read_pair.Given as goal

abbrev pub decreases-read_node : goal.decreases-read_node
decreases-read_node l = 2 * (l.source.now.rules.nodes - l.self.now.nodes)

abbrev pub decreases-read_pair : goal.decreases-read_pair
decreases-read_pair l = 2 * (l.source.now.rules.nodes - l.self.now.nodes) + 1
