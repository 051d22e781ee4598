-- A part of a file that is written in pieces: what was written so far is a front of its line.
use Rattle.std.proofs.Common.{◌≡◌, ◌≤◌, ◌<◌, ◌+◌, ◌-◌, ℕ, Bool, true, IsTrue, Result, Ok, Err, List, [], ◌∷◌, ◌++◌, map, take, drop, min, length, Option, Some, None, false, inr, refl, sym, ap, subst, ◌∙◌, arith, append_assoc, append-nil, length-append, length-take, length-drop}
use Rattle.std.specs.Prelude.{codes}
use Rattle.std.specs.Option.{option_map}
use Rattle.std.specs.Io.KnownBytes.{Appends}
use Rattle.std.specs.List.{range_with_len}
use Rattle.std.proofs.lemmas.List.FromFn.{length-map-range_with_len}
use Rattle.std.proofs.lemmas.Grind.{flat_map-append}
use Rattle.std.proofs.lemmas.List.{take-append-le, length-take-le, drop_all}
use Rattle.nv_super.proofs.Ranges.{range_more}
use Rattle.nv_region.specs.RegionState.{RegionState}
use Rattle.nv_tree.specs.Tree.{Tree, Node}
use Rattle.nv_tree.specs.Path.{IsPath, Says}
use Rattle.nv_tree.specs.Calls.{bytes_read}
use Rattle.nv_tree.specs.Refusals.{Path, first_refusal, read_tests}
use Rattle.nv_tree.specs.declared.refusal.Refusal.TheVariants.{BadName}
use Rattle.nv_tree.proofs.Texts.{text_says, says_one}
use Rattle.nv_paths.specs.Seen.{LeadsTo, tree_of}
use Rattle.nv_calls.specs.Mount.{Mount}
use Rattle.nv_calls.specs.Reading.{IsRead, IsReadInto}
use Rattle.nv_tree.specs.Stat.{IsStat, stat_of}
use Rattle.nv_tree.specs.declared.stat.Stat.{Stat}
use Rattle.nv_text.specs.Names.{hex_byte, data_line}
use Rattle.nv_stream.specs.Streams.{AppendsShort}
use Rattle.nv_stream.proofs.StreamLemmas.{appends_both, appends_short}
use Rattle.nv_session.specs.Machine.{TellsBytes}
use Rattle.nv_session.specs.Printed.{IsReadable, IsLongPart, Prints, ShowsFilePart, bytes_from, digits_of, part_line}
use Rattle.nv_session.specs.Sessions.{mount_in}
use Rattle.nv_session.specs.declared.session.Session.{Session}
use Rattle.nv_session.specs.declared.printed.Printed.{Printed}
use Rattle.nv_session.specs.declared.printed.Printed.TheVariants.{Part}
use Rattle.nv_session.specs.declared.printed.FilePart.{FilePart}

-- ---- the file

-- a path leads to one inode
pub one_node : (t : Tree) (names : List (List ℕ)) (i j : ℕ) (a b : Node) → LeadsTo t names i a → LeadsTo t names j b → a ≡ b
one_node t names i j a b p q =
    let number : i ≡ j = (let first = p.leads in let second = q.leads in cc) in
    let first = p.shows in
    let second : t i ≡ Some b = rw number q.shows in
    cc

size_is : (t : Tree) (names : List (List ℕ)) (i : ℕ) (node : Node) (s : Stat) → LeadsTo t names i node → IsStat t names s → s.size ≡ node.size
size_is t names i node s leads stat =
    let number : s.inode ≡ i = (let first = leads.leads in let second = stat.leads in cc) in
    let shown : t s.inode ≡ Some node = rw number leads.shows in
    let same : Some (stat_of s.inode node) ≡ Some s = ap (option_map (stat_of s.inode)) (sym shown) ∙ stat.shows in
    let whole : stat_of s.inode node ≡ s = cc in
    ap (λ (x : Stat). x.size) (sym whole)

-- a read of no bytes wasn't refused, and the inode's size was asked for
pub readable : (m : Mount RegionState) (path : List ℕ) (bytes : List ℕ) (s : Stat) → m.stopped ≡ false
    → ((names : List (List ℕ)) → IsPath path names → IsRead (tree_of m.memory.region m.rows) names 0 0 bytes)
    → ((p : Path) → Says path p → first_refusal (read_tests (tree_of m.memory.region m.rows) p) ≡ None)
    → ((names : List (List ℕ)) → IsPath path names → IsStat (tree_of m.memory.region m.rows) names s)
    → (file : IsReadable m path) × (s.size ≡ file.node.size)
readable m path bytes s runs reads allowed stats = by_path (text_says path).0 (text_says path).1
  where
    by_path : (p : Path) → Says path p → (file : IsReadable m path) × (s.size ≡ file.node.size)
    by_path None says = absurd (let bad : Some BadName ≡ None = allowed None says in cc)
    by_path (Some names) says =
        let read = reads names says in (
          record { runs = runs; names = names; is_path = says; allowed = allowed (Some names) says; inode = read.inode; node = read.node; leads = read.leads },
          size_is (tree_of m.memory.region m.rows) names read.inode read.node s read.leads (stats names says),
        )

-- ---- a piece of it

pub a_piece : (node : Node) (at count : ℕ) → at + count ≤ node.size → bytes_read at count node ≡ bytes_from node at count
a_piece node at count within = ap (λ n. map node.bytes (range_with_len at n)) (let same : min count (node.size - at) ≡ count = omega arith in same)

pub piece_is : (m : Mount RegionState) (path : List ℕ) (file : IsReadable m path) (at count : ℕ) (old new : List ℕ) → at + length old ≤ file.node.size
    → IsReadInto (tree_of m.memory.region m.rows) file.names at old count new → new ≡ bytes_from file.node at (length old)
piece_is m path file at count old new within read =
    let same : read.node ≡ file.node = one_node (tree_of m.memory.region m.rows) file.names read.inode file.inode read.node file.node read.leads file.leads in
    let bytes : bytes_read at (length old) read.node ≡ bytes_from file.node at (length old) = ap (bytes_read at (length old)) same ∙ a_piece file.node at (length old) within in
    let full : count ≡ length old = read.as_many ∙ ap (length {A = ℕ}) bytes ∙ length-map-range_with_len file.node.bytes at (length old) in
    let none : drop count old ≡ [] = ap (λ n. drop n old) full ∙ drop_all (length old) old (omega arith) in
    read.bytes ∙ (λ i. bytes i ++ none i) ∙ append-nil (bytes_from file.node at (length old))

-- ---- its line

joins : (node : Node) (at first second : ℕ) → bytes_from node at (first + second) ≡ bytes_from node at first ++ bytes_from node (at + first) second
joins node at first second = sym (range_more node.bytes at first second)

digits_join : (node : Node) (at first second : ℕ) → digits_of (bytes_from node at (first + second)) ≡ digits_of (bytes_from node at first) ++ digits_of (bytes_from node (at + first) second)
digits_join node at first second = ap digits_of (joins node at first second) ∙ flat_map-append hex_byte (bytes_from node at first) (bytes_from node (at + first) second)

line_of_some : (bytes : List ℕ) → 0 < length bytes → data_line bytes ≡ (codes "data " ++ digits_of bytes) ++ codes "\n"
line_of_some [] some = absurd (omega arith)
line_of_some (b ∷ bytes) some = refl

-- what stands of the line in front of the byte at a place
abbrev pub front_of_line : Node → ℕ → ℕ → List ℕ
front_of_line node offset at = codes "data " ++ digits_of (bytes_from node offset (at - offset))

-- what stands from there on
abbrev pub rest_of_line : Node → ℕ → ℕ → List ℕ
rest_of_line node at end = digits_of (bytes_from node at (end - at)) ++ codes "\n"

module _ (node : Node) (offset end : ℕ) (some : offset < end) where
  long : 0 < length (bytes_from node offset (end - offset))
  long = rw (length-map-range_with_len node.bytes offset (end - offset)) (omega (arith, some))

  pub first_front : front_of_line node offset offset ≡ codes "data "
  first_front = let none : offset - offset ≡ 0 = omega arith in ap (λ n. codes "data " ++ digits_of (bytes_from node offset n)) none

  pub whole_line : (at : ℕ) → end ≤ at → at ≤ end → part_line node offset end ≡ front_of_line node offset at ++ codes "\n"
  whole_line at behind within =
      let same : at ≡ end = omega (arith, behind, within) in
      line_of_some _ long ∙ ap (λ n. front_of_line node offset n ++ codes "\n") (sym same)

  pub line_parts : (at : ℕ) → offset ≤ at → at ≤ end → part_line node offset end ≡ front_of_line node offset at ++ rest_of_line node at end
  line_parts at from within =
      let sum : end - offset ≡ (at - offset) + (end - at) = omega (arith, from, within) in
      let place : offset + (at - offset) ≡ at = omega (arith, from) in
      let digits : digits_of (bytes_from node offset (end - offset)) ≡ digits_of (bytes_from node offset (at - offset)) ++ digits_of (bytes_from node at (end - at)) =
      ap (λ n. digits_of (bytes_from node offset n)) sum ∙ digits_join node offset (at - offset) (end - at) ∙ ap (λ p. digits_of (bytes_from node offset (at - offset)) ++ digits_of (bytes_from node p (end - at))) place in
      line_of_some _ long
      ∙ ap (λ x. (codes "data " ++ x) ++ codes "\n") digits
      ∙ ap (λ x. x ++ codes "\n") (sym (append_assoc (codes "data ") (digits_of (bytes_from node offset (at - offset))) (digits_of (bytes_from node at (end - at)))))
      ∙ append_assoc (front_of_line node offset at) (digits_of (bytes_from node at (end - at))) (codes "\n")

  pub front_more : (at count : ℕ) → offset ≤ at → front_of_line node offset (at + count) ≡ front_of_line node offset at ++ digits_of (bytes_from node at count)
  front_more at count from =
      let sum : at + count - offset ≡ (at - offset) + count = omega (arith, from) in
      let place : offset + (at - offset) ≡ at = omega (arith, from) in
      ap (λ n. codes "data " ++ digits_of (bytes_from node offset n)) sum
      ∙ ap (λ x. codes "data " ++ x) (digits_join node offset (at - offset) count ∙ ap (λ p. digits_of (bytes_from node offset (at - offset)) ++ digits_of (bytes_from node p count)) place)
      ∙ sym (append_assoc (codes "data ") (digits_of (bytes_from node offset (at - offset))) (digits_of (bytes_from node at count)))

-- less than a front is less than the whole
pub short_more : (old new : Option (List ℕ)) (x y : List ℕ) → AppendsShort old new x → AppendsShort old new (x ++ y)
short_more old new x y (n, less, added) = (n, simp length-append (omega (arith, less)), subst (λ (t : List ℕ). Appends old new t) (sym (take-append-le n x y (omega (arith, less)))) added)

-- ---- written a piece at a time

-- the front of a room that a piece takes
pub room_of_piece : (whole room : List ℕ) (at end count : ℕ) → count ≡ min 131072 (end - at) → room ≡ whole → length whole ≡ 131072 → length (take count room) ≡ count
room_of_piece whole room at end count counted same long =
    let as_long : length room ≡ 131072 = ap (length {A = ℕ}) same ∙ long in
    length-take-le count room (omega (arith, counted, as_long))

pub piece_ends : (at end count : ℕ) → count ≡ min 131072 (end - at) → at < end → at + count ≤ end
piece_ends at end count counted more = omega (arith, counted, more)

-- a room with another front is as long
pub still_long : (room given : List ℕ) (len n : ℕ) → length room ≡ n → len ≡ n → length (take len (given ++ drop (length given) room)) ≡ n
still_long room given len n long is = simp (length-take, length-append, length-drop) (omega (arith, long, is))

module _ (a b c : Option (List ℕ)) (node : Node) (offset end at : ℕ) (some : offset < end) (from : offset ≤ at) (so_far : Appends a b (front_of_line node offset at)) where
  pub piece_added : (count : ℕ) → Appends b c (digits_of (bytes_from node at count)) → Appends a c (front_of_line node offset (at + count))
  piece_added count piece =
      subst (λ (text : List ℕ). Appends a c text) (sym (front_more node offset end some at count from)) (appends_both a b c (front_of_line node offset at) (digits_of (bytes_from node at count)) so_far piece)

  pub piece_short : (count : ℕ) → at + count ≤ end → AppendsShort b c (digits_of (bytes_from node at count)) → AppendsShort a c (part_line node offset end)
  piece_short count within piece =
      let behind : offset ≤ at + count = omega (arith, from) in
      let whole : part_line node offset end ≡ (front_of_line node offset at ++ digits_of (bytes_from node at count)) ++ rest_of_line node (at + count) end =
      line_parts node offset end some (at + count) behind within ∙ ap (λ (x : List ℕ). x ++ rest_of_line node (at + count) end) (front_more node offset end some at count from) in
      subst (λ (text : List ℕ). AppendsShort a c text) (sym whole) (short_more a c (front_of_line node offset at ++ digits_of (bytes_from node at count)) (rest_of_line node (at + count) end)
      (appends_short a b c (front_of_line node offset at) (digits_of (bytes_from node at count)) so_far piece))

  pub line_ends : end ≤ at → at ≤ end → Appends b c (codes "\n") → Appends a c (part_line node offset end)
  line_ends behind within piece = subst (λ (text : List ℕ). Appends a c text) (sym (whole_line node offset end some at behind within)) (appends_both a b c (front_of_line node offset at) (codes "\n") so_far piece)

  pub line_ends_short : end ≤ at → at ≤ end → AppendsShort b c (codes "\n") → AppendsShort a c (part_line node offset end)
  line_ends_short behind within piece = subst (λ (text : List ℕ). AppendsShort a c text) (sym (whole_line node offset end some at behind within)) (appends_short a b c (front_of_line node offset at) (codes "\n") so_far piece)

-- ---- what `read` tells

pub part_told : (m : Mount RegionState) (path : List ℕ) (offset count : ℕ) (part : FilePart) → (is : IsLongPart m path offset count part) → (p : Path) → Says path p
    → TellsBytes offset count (tree_of m.memory.region m.rows) p (part_line is.file.node part.offset part.end)
part_told m path offset count part is p says =
    let file = is.file in
    let named : p ≡ Some file.names = says_one path p (Some file.names) says file.is_path in
    let allowed : first_refusal (read_tests (tree_of m.memory.region m.rows) p) ≡ None = rw named file.allowed in
    let bytes : bytes_from file.node part.offset (part.end - part.offset) ≡ bytes_read offset count file.node =
    rw is.offset_is (ap (bytes_from file.node offset) is.as_many) in
    inr (file.names, named, allowed, bytes_from file.node part.offset (part.end - part.offset), record { inode = file.inode; node = file.node; leads = file.leads; is = bytes }, refl)

-- a file at a path, as one at an equal path
abbrev pub at_equal : (m : Mount RegionState) (a b : List ℕ) → a ≡ b → IsReadable m a → IsReadable m b
at_equal m a b e file = record { runs = file.runs; names = file.names; is_path = rw (sym e) file.is_path; allowed = file.allowed; inode = file.inode; node = file.node; leads = file.leads }

-- such a part is printed as its line
pub part_prints : (s : Session) (m : Mount RegionState) (path : List ℕ) (offset count : ℕ) (part : FilePart) → mount_in s.store ≡ Some m → IsLongPart m path offset count part
    → (said : List ℕ) × Prints s (Part part) said × ((p : Path) → Says path p → TellsBytes offset count (tree_of m.memory.region m.rows) p said)
part_prints s m path offset count part there is =
    (part_line is.file.node part.offset part.end, (m, there, (at_equal m path part.path.items (sym is.path_is) is.file, is.within, refl)), λ p says. part_told m path offset count part is p says)

-- what is printed is shown by what is mounted
pub shows_there : (s : Session) (m : Mount RegionState) (printed : Printed) (part : FilePart) (said : List ℕ) → printed ≡ Part part → mount_in s.store ≡ Some m → Prints s printed said → ShowsFilePart m part said
shows_there s m printed part said is there prints =
    let shown : Prints s (Part part) said = subst (λ (p : Printed). Prints s p said) is prints in
    let same : shown.0 ≡ m = (let first = shown.1 in cc) in
    subst (λ (n : Mount RegionState). ShowsFilePart n part said) same shown.2

-- a call that answers isn't one of a mount that has stopped
pub runs_on : {T E : Type 0} (stopped : Bool) (r : Result T E) (e : E) (x : T) → r ≡ Ok x → (IsTrue stopped → r ≡ Err e) → stopped ≡ false
runs_on true r e x is refused = absurd (let bad = refused refl in cc)
runs_on false r e x is refused = refl
