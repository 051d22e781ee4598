use Rattle.std.proofs.Common.{◌*◌, ◌^◌}
use Rattle.std.proofs.Math.Nat.{mod-add-mod}
use Rattle.nv_names.proofs.key.with_digit.Goals as goal

pub returns : goal.returns
returns c = mod-add-mod (c.args.number * 257) (2 ^ 64) c.args.byte
