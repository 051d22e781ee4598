-- A command without where its bytes lie in memory.
use Rattle.nv_line.specs.Request as request
use Rattle.nv_line.specs.Request.{Request}
use Rattle.nv_line.specs.declared.commands.Command.{Command}
use Rattle.nv_line.specs.declared.commands.Command.TheVariants as commands

-- what a command asks for
abbrev pub view : Command → Request
view (commands.Format cpus blocks table_blocks) = request.Format cpus blocks table_blocks
view (commands.Time time) = request.Time time
view (commands.Poke at value) = request.Poke at value
view (commands.Cut length) = request.Cut length
view (commands.Recover workers) = request.Recover workers
view (commands.Replay workers schedule) = request.Replay workers schedule.items
view (commands.ListNames path) = request.ListNames path.now
view (commands.Stat path) = request.Stat path.now
view (commands.Read path offset count) = request.Read path.now offset count
view (commands.Create cpu path) = request.Create cpu path.now
view (commands.MakeDirectory cpu path) = request.MakeDirectory cpu path.now
view (commands.Write cpu path offset count byte) = request.Write cpu path.now offset count byte
view (commands.SetSize cpu path size) = request.SetSize cpu path.now size
view (commands.SetAttributes cpu path mode owner group) = request.SetAttributes cpu path.now mode owner group
view (commands.Link cpu old new) = request.Link cpu old.now new.now
view (commands.Unlink cpu path) = request.Unlink cpu path.now
view (commands.RemoveDirectory cpu path) = request.RemoveDirectory cpu path.now
view (commands.Rename cpu old new) = request.Rename cpu old.now new.now
view (commands.Clean path) = request.Clean path.now
view commands.Upgrade = request.Upgrade
view commands.Tree = request.Tree
view commands.Free = request.Free
view commands.Faults = request.Faults
view commands.Report = request.Report
view (commands.Peek at) = request.Peek at
view (commands.Stop fuse keep) = request.Stop fuse keep
