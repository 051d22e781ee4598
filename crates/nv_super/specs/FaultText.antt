-- The texts of the faults.
use Rattle.std.specs.Prelude.{ℕ, List, ◌++◌, codes, decimal}
use Rattle.nv_super.specs.declared.owners.Owner.{Owner}
use Rattle.nv_super.specs.declared.owners.Owner.TheVariants.{Table, Log, Data}
use Rattle.nv_super.specs.declared.superblock.SuperFault.{SuperFault}
use Rattle.nv_super.specs.declared.superblock.SuperFault.TheVariants as super_faults
use Rattle.nv_super.specs.declared.faults.Fault.{Fault}
use Rattle.nv_super.specs.declared.faults.Fault.TheVariants.{J1, J2, H1, H2, I1, I2, I3, L1, L2, L3, L4, E1, E2, E3, E4, C1, C2, C3, C4, C5, B1}

-- what holds a block: a CPU's table, as a place of its chain, or an inode, as a page of its log, or of its file
abbrev pub owner_text : Owner → List ℕ
owner_text (Table c k) = codes "table " ++ decimal c ++ codes " " ++ decimal k
owner_text (Log i k) = codes "log " ++ decimal i ++ codes " " ++ decimal k
owner_text (Data i p) = codes "data " ++ decimal i ++ codes " " ++ decimal p

-- the class of a fault and its fields
abbrev pub fault_text : Fault → List ℕ
fault_text (J1 c) = codes "J1 cpu " ++ decimal c
fault_text (J2 c k) = codes "J2 cpu " ++ decimal c ++ codes " record " ++ decimal k
fault_text (H1 c a) = codes "H1 cpu " ++ decimal c ++ codes " at " ++ decimal a
fault_text (H2 c a) = codes "H2 cpu " ++ decimal c ++ codes " at " ++ decimal a
fault_text (I1 i) = codes "I1 inode " ++ decimal i
fault_text (I2 i) = codes "I2 inode " ++ decimal i
fault_text (I3 i) = codes "I3 inode " ++ decimal i
fault_text (L1 i a) = codes "L1 inode " ++ decimal i ++ codes " at " ++ decimal a
fault_text (L2 i a) = codes "L2 inode " ++ decimal i ++ codes " at " ++ decimal a
fault_text (L3 i a) = codes "L3 inode " ++ decimal i ++ codes " at " ++ decimal a
fault_text (L4 i a) = codes "L4 inode " ++ decimal i ++ codes " at " ++ decimal a
fault_text (E1 i a) = codes "E1 inode " ++ decimal i ++ codes " at " ++ decimal a
fault_text (E2 i a) = codes "E2 inode " ++ decimal i ++ codes " at " ++ decimal a
fault_text (E3 i a) = codes "E3 inode " ++ decimal i ++ codes " at " ++ decimal a
fault_text (E4 i a) = codes "E4 inode " ++ decimal i ++ codes " at " ++ decimal a
fault_text (C1 d a) = codes "C1 inode " ++ decimal d ++ codes " at " ++ decimal a
fault_text (C2 i) = codes "C2 inode " ++ decimal i
fault_text (C3 i) = codes "C3 inode " ++ decimal i
fault_text (C4 i) = codes "C4 inode " ++ decimal i
fault_text C5 = codes "C5"
fault_text (B1 b o) = codes "B1 block " ++ decimal b ++ codes " " ++ owner_text o

-- the faults of a superblock, in the order of their tests
abbrev pub super_fault_name : SuperFault → List ℕ
super_fault_name super_faults.Length = codes "S1"
super_fault_name super_faults.Magic = codes "S2"
super_fault_name super_faults.Version = codes "S3"
super_fault_name super_faults.Cpus = codes "S4"
super_fault_name super_faults.Blocks = codes "S5"
super_fault_name super_faults.Tables = codes "S6"
super_fault_name super_faults.State = codes "S7"
