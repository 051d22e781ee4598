use Rattle.std.proofs.Common.{take, map, string_bytes}
use Rattle.nv_difference.specs.Names.{IsNameText, name_bytes}
use Rattle.nv_difference.specs.Pairs.{both_of}
use Rattle.nv_difference.specs.Texts.{Adds, AreTexts}
use Rattle.nv_difference.proofs.names.push_names.Given as goal

-- the names so far were told
abbrev pub invariant-loop-named : goal.invariant-loop-named
invariant-loop-named g l = Adds (AreTexts (IsNameText (g.S.Inodes.tree l.first) (g.T.Inodes.tree l.second) (both_of l.pair)) (map name_bytes (take l.named-index l.names)))
    (string_bytes l.fn.out) (string_bytes l.out)
