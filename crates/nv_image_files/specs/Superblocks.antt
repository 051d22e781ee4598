-- What is said of an image whose superblock isn't accepted.
use Rattle.std.specs.Prelude.{◌≡◌, ◌≤◌, ℕ, ◌/◌, ◌==◌, ◌&&◌, Bool, nat_lt, if◌then◌else◌, List, [], ◌∷◌, ◌++◌, length, slice_index, take, min, Option, Some, None, codes, decimal}
use Rattle.std.specs.List.{starts_with}
use Rattle.nv_region.specs.Region.{Region, word, size}
use Rattle.nv_super.specs.declared.superblock.SuperFault.{SuperFault}
use Rattle.nv_super.specs.declared.superblock.SuperFault.TheVariants as faults
use Rattle.nv_image_files.specs.declared.superblock.BadSuper.{BadSuper}
use Rattle.nv_image_files.specs.declared.superblock.BadSuper.TheVariants.{Magic, Version, Cpus, Blocks, Tables, State}
use Rattle.nv_image_files.specs.declared.superblock.Content.{Content}
use Rattle.nv_image_files.specs.declared.superblock.Content.TheVariants.{Gzip, Xfs, Ext}

-- the words for which a fault applies to a region; of a length that is told elsewhere
abbrev pub said_of : Region → SuperFault → Option BadSuper
said_of R faults.Length = None
said_of R faults.Magic = Some (Magic (word R 0))
said_of R faults.Version = Some (Version (word R 8))
said_of R faults.Cpus = Some (Cpus (word R 16))
said_of R faults.Blocks = Some (Blocks (word R 24) (size R / 4096))
said_of R faults.Tables = Some (Tables (word R 32) (word R 16) (word R 24))
said_of R faults.State = Some (State (word R 40))

-- what the user reads of them
abbrev pub bad_super_text : BadSuper → List ℕ
bad_super_text (Magic word) = codes "its first word is " ++ decimal word ++ codes "; that of a region is 3544417913829478222, the text NOVAPM01"
bad_super_text (Version version) = codes "its version is " ++ decimal version ++ codes "; 1 and 2 are taken"
bad_super_text (Cpus cpus) = codes "it has " ++ decimal cpus ++ codes " CPUs; a region has 1 to 64"
bad_super_text (Blocks told held) = codes "it was cut or made longer: it tells " ++ (decimal told ++ (codes " blocks, and has " ++ decimal held))
bad_super_text (Tables tables cpus blocks) = codes "a CPU has 1 to 64 table blocks, and a block is left for data; it has "
    ++ (decimal cpus ++ (codes " CPUs, " ++ (decimal tables ++ (codes " table blocks for each, and " ++ (decimal blocks ++ codes " blocks")))))
bad_super_text (State state) = codes "its state is " ++ decimal state ++ codes "; 0 and 1 are taken"

-- it begins with bytes 31 and 139, as what gzip has compressed
abbrev pub is_gzip : List ℕ → Bool
is_gzip bytes = starts_with (λ a b. a == b) bytes (31 ∷ 139 ∷ [])

-- it begins with the name of an image of XFS
abbrev pub is_xfs : List ℕ → Bool
is_xfs bytes = starts_with (λ a b. a == b) bytes (codes "XFSB")

-- at byte 1080 it has bytes 83 and 239, as the superblock of ext2, ext3 and ext4
abbrev pub is_ext : List ℕ → Bool
is_ext bytes = nat_lt 1081 (length bytes) && ((slice_index bytes 1080 == 83) && (slice_index bytes 1081 == 239))

-- what a file holds by these bytes
abbrev pub known_content : List ℕ → Option Content
known_content bytes = if is_gzip bytes then Some Gzip
    else if is_xfs bytes then Some Xfs
    else if is_ext bytes then Some Ext
    else None

-- what the user reads of it
abbrev pub content_text : Content → List ℕ
content_text Gzip = codes "by its first bytes it is compressed by gzip"
content_text Xfs = codes "by its first bytes it is an image of XFS"
content_text Ext = codes "by its first bytes it is an image of ext2, ext3 or ext4"

-- a file of so many bytes begins with these: at least with those that its content is recognized by, or with all
pub record Begins (file : List ℕ) (count : ℕ) (first : List ℕ) : Type 0 where
  pub as_long : length file ≡ count
  pub front : first ≡ take (length first) file
  pub enough : min count 1088 ≤ length first
