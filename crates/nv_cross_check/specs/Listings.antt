-- Rows whose names are listed, and what is wrong between them.
use Rattle.std.specs.Prelude.{◌≡◌, ◌≢◌, ℕ, ◌<◌, ◌==◌, List, map, count_by}
use Rattle.std.specs.List.{Contains, flat_map, AllZip}
use Rattle.nv_super.specs.declared.kind.Kind.TheVariants.{File, Directory}
use Rattle.nv_super.specs.declared.faults.Fault.{Fault}
use Rattle.nv_super.specs.declared.faults.Fault.TheVariants as faults
use Rattle.nv_names.specs.Names.{line_of, HasNames}
use Rattle.nv_names.specs.declared.named.Named.{Named}
use Rattle.nv_scan.specs.declared.piece.Row.{Row}
use Rattle.nv_cross_check.specs.Listing.{Listing}

-- the row's inode, kind and link count, with its names, each once, in whatever order
pub record IsListing (r : Row) (l : Listing) : Type 0 where
  pub inode : l.inode ≡ r.inode
  pub kind : l.kind ≡ r.kind
  pub links : l.links ≡ r.numbers.links
  pub names : HasNames r.names (map line_of l.names)

-- the rows one by one
abbrev pub AreListings : List Row → List Listing → Type 0
AreListings rows listings = AllZip IsListing rows listings

-- the inodes of the rows
abbrev pub inodes_of : List Listing → List ℕ
inodes_of listings = map (λ (l : Listing). l.inode) listings

-- the inode that a name names
abbrev pub target : Named → ℕ
target x = x.inode

-- the inodes named, once for each name, over all rows
abbrev pub targets : List Listing → List ℕ
targets listings = flat_map (λ (l : Listing). map target l.names) listings

-- how many names an inode has
abbrev pub names_of : List Listing → ℕ → ℕ
names_of listings i = count_by (λ t. t == i) (targets listings)

-- the root, and what a reached directory names, as far as it is in use
pub data IsReached (listings : List Listing) : ℕ → Type 0 where
  root : (l : Listing) → Contains listings l → l.inode ≡ 1 → l.kind ≡ Directory → IsReached listings l.inode
  step : (d l : Listing) (x : Named) → IsReached listings d.inode → Contains listings d → Contains d.names x → Contains listings l → l.inode ≡ target x → IsReached listings l.inode

-- no row is the inode's
abbrev pub IsUnused : List Listing → ℕ → Type 0
IsUnused listings i = (l : Listing) → Contains listings l → l.inode ≡ i → ⊥

-- what is wrong between the rows
pub data IsFault (listings : List Listing) : Fault → Type 0 where
  c1 : (d : Listing) (x : Named) → Contains listings d → Contains d.names x → IsUnused listings (target x) → IsFault listings (faults.C1 d.inode x.place)
  c2 : (l : Listing) → Contains listings l → l.kind ≡ Directory → l.inode ≢ 1 → names_of listings l.inode ≢ 1 → IsFault listings (faults.C2 l.inode)
  c2_root : (l : Listing) → Contains listings l → l.kind ≡ Directory → l.inode ≡ 1 → 0 < names_of listings l.inode → IsFault listings (faults.C2 l.inode)
  c3 : (l : Listing) → Contains listings l → l.kind ≡ File → l.links ≢ names_of listings l.inode → IsFault listings (faults.C3 l.inode)
  c4 : (l : Listing) → Contains listings l → (IsReached listings l.inode → ⊥) → IsFault listings (faults.C4 l.inode)
  c5 : ((l : Listing) → Contains listings l → l.inode ≡ 1 → l.kind ≡ Directory → ⊥) → IsFault listings faults.C5
