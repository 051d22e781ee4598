use Rattle.std.proofs.Common.{◌≡◌, ◌≤◌, ◌-◌, length}
use Rattle.std.specs.Io.KnownBytes.{Appends}
use Rattle.nv_session.specs.Printed.{IsReadable}
use Rattle.nv_session.proofs.FileParts.{front_of_line}
use Rattle.nv_session.proofs.parts.write_part.Given as goal

-- the line was written up to the byte at this place
abbrev pub invariant-loop-at : goal.invariant-loop-at
invariant-loop-at g l = (l.offset ≤ l.at) × (l.at ≤ l.end) × (length l.bytes.items ≡ 131072) × (length l.digits.items ≡ 262144)
    × ((file : IsReadable l.mount l.path.items) → l.end ≤ file.node.size → Appends (g.W.Write.contents l.fn.writer) (g.W.Write.contents l.writer) (front_of_line file.node l.offset l.at))

abbrev pub decreases-loop-at : goal.decreases-loop-at
decreases-loop-at g l = l.end - l.at
