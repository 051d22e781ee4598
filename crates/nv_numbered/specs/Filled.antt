-- How `Chunks` lays out its values. No public clause cites this module.
use Rattle.std.specs.Prelude.{◌≡◌, ℕ, ◌-◌, ◌*◌, ◌<◌, ◌≤◌, ◌^◌, min, List, [], ◌∷◌, length, map, vec_items, vec_capacity}
use Rattle.std.specs.List.{All, flat_map}
use Rattle.std.specs.declared.vec.Vec.{Vec}
use Rattle.nv_numbered.specs.Chunked.{Chunked}

module _ {X : Type 0} where
  -- the values of chunks, one after another
  abbrev pub joined : List (List X) → List X
  joined lists = flat_map (λ list. list) lists

  -- so many values fill chunks from the first on, and those behind the last value are empty
  abbrev pub AreFilled : List (List X) → ℕ → Type 0
  AreFilled [] len = len ≡ 0
  AreFilled (list ∷ lists) len = (length list ≡ min len 256) × AreFilled lists (len - 256)

module _ {X A : Type 0} where
  -- the values of each chunk
  abbrev pub lists_of : List (Vec X A) → List (List X)
  lists_of chunks = map vec_items chunks

  -- a chunk has room for as many values as it ever gets
  abbrev pub HasRoom : Vec X A → Type 0
  HasRoom chunk = 256 ≤ vec_capacity chunk

  -- and has as many values as it can
  abbrev pub IsFullChunk : Vec X A → Type 0
  IsFullChunk chunk = (length chunk.items ≡ 256) × HasRoom chunk

  -- the values fill the chunks, each of which has room for 256, and a word can count all places
  pub record AreChunks (chunks : List (Vec X A)) (len : ℕ) : Type 0 where
    pub filled : AreFilled (lists_of chunks) len
    pub roomy : All HasRoom chunks
    pub few : 256 * length chunks < 2 ^ 64

  -- what a contract sees of them
  abbrev pub seen_as : List (Vec X A) → ℕ → Chunked X
  seen_as chunks len = record { items = joined (lists_of chunks); room = 256 * length chunks - len }
