use Rattle.std.proofs.Common.{◌^◌, arith}
use Rattle.std.proofs.Math.Nat.{div-le_self}
use Rattle.nv_blockset.proofs.WordBits.{zeros_from}
use Rattle.nv_blockset.proofs.bits.count_zeros.Goals as goal

pub returns : goal.returns
returns c = let less = div-le_self c.args.word (2 ^ c.args.from) in zeros_from c.args.word c.args.from c.min.result c.requires (omega (arith, less, c.ranges.word.fits)) c.min.ensures
