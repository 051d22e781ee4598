-- What is shown of a refusal to people.
use Rattle.std.specs.Prelude.{ℕ, List, codes}
use Rattle.nv_tree.specs.declared.refusal.Refusal.{Refusal}
use Rattle.nv_tree.specs.declared.refusal.Refusal.TheVariants.{NotFound, Exists, NotDirectory, IsDirectory, NotEmpty, BadName, NoSpace, NoInodes, TooLarge, ReadOnly, LinkLimit, IntoItself, BadCpu}
use Rattle.nv_tree.specs.declared.refusal.Refusal.TheVariants.{Memory, Stopped, IsVersion2}

-- the sentence that is shown for a refusal
abbrev pub refusal_sentence : Refusal → List ℕ
refusal_sentence NotFound = codes "there is no such inode"
refusal_sentence Exists = codes "there is an inode of that name"
refusal_sentence NotDirectory = codes "a file stands where a directory is wanted"
refusal_sentence IsDirectory = codes "a directory stands where a file is wanted"
refusal_sentence NotEmpty = codes "the directory has names"
refusal_sentence BadName = codes "the text is no path, or it is / where a name is wanted"
refusal_sentence NoSpace = codes "fewer blocks are free than the call needs"
refusal_sentence NoInodes = codes "the table of that CPU has no unused slot"
refusal_sentence TooLarge = codes "the file would have more than 1,073,741,824 bytes"
refusal_sentence ReadOnly = codes "the region was mounted with faults, so it can only be read"
refusal_sentence LinkLimit = codes "the file has 1,000 links"
refusal_sentence IntoItself = codes "the directory would lie in itself"
refusal_sentence BadCpu = codes "there is no CPU of that number"
refusal_sentence Memory = codes "out of memory"
refusal_sentence Stopped = codes "the memory has been stopped"
refusal_sentence IsVersion2 = codes "the region has version 2 already"
