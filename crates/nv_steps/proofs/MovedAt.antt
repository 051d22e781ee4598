-- A name that went from one directory to another, once both logs have grown and the rows are settled.
use Rattle.std.proofs.Common.{◌≡◌, ℕ, ◌-◌, inl, inr, List, [], ◌∷◌, slice_get, refl, ap, sym, ◌∙◌, subst, None}
use Rattle.nv_super.specs.Layout.{Layout}
use Rattle.std.proofs.lemmas.Option.{same_Some}
use Rattle.nv_region.specs.Region.{Region}
use Rattle.nv_alloc.specs.FreeValue.{FreeLists}
use Rattle.nv_entry.specs.declared.entry.Entry.{Entry}
use Rattle.nv_entry.specs.declared.entry.Entry.TheVariants.{Name}
use Rattle.nv_entry.specs.declared.entry.Operation.TheVariants.{Add, Remove}
use Rattle.nv_entry.specs.Spelling.{entry_length}
use Rattle.nv_logpage.specs.Append.{end_of}
use Rattle.nv_names.specs.Names.{EachOnce, name_at}
use Rattle.nv_mounted.specs.Held.{Store}
use Rattle.nv_commit.specs.Stopped.{LeavesEither}
use Rattle.nv_scan.specs.declared.piece.Row.{Row}
use Rattle.nv_steps.specs.MoreNames.{AddsName, AppendsLogs, GetsName, GrowsSame, GrowsTwo}
use Rattle.nv_steps.specs.NameEntries.{name_entries}
use Rattle.nv_steps.specs.Stopped.{AppendedBoth, MovedOver}
use Rattle.nv_steps.specs.Unlinks.{DropsName, LosesName}
use Rattle.nv_steps.proofs.LessName.{found_without, once_without}
use Rattle.nv_steps.proofs.LinkedAt.{added_row, adds_after}
use Rattle.nv_steps.proofs.MadeNamed.{named_once, place_is}
use Rattle.nv_steps.proofs.UnlinkedAt.{dropped_row, drops_after}

module _ {R S : Region} {l : Layout} {free after : FreeLists} {cpu : ℕ} {from to a b : Row} {i time : ℕ} {name other : List ℕ}
    (grew : AppendsLogs R S l free after cpu (from ∷ to ∷ []) (a ∷ b ∷ []) 0 (name_entries Remove i name time) 1 (name_entries Add i other time)) where
  abbrev cut : List Entry
  cut = name_entries Remove i name time

  abbrev put : List Entry
  put = name_entries Add i other time

  -- by the rows that were there
  grown : GrowsTwo R S l free after cpu (from ∷ to ∷ []) (a ∷ b ∷ []) 0 from cut 1 to put (λ fresh now. GrowsSame from fresh (end_of fresh 0 from.tail cut) now) (λ more now. GrowsSame to more (end_of more 0 to.tail put) now)
  grown =
      let step = grew.step in
      let first_is : from ≡ grew.first = same_Some _ _ step.at in
      let second_is : to ≡ grew.second = same_Some _ _ step.other_at in
      subst (λ (r : Row). GrowsTwo R S l free after cpu (from ∷ to ∷ []) (a ∷ b ∷ []) 0 r cut 1 to put (λ fresh now. GrowsSame r fresh (end_of fresh 0 r.tail cut) now) (λ more now. GrowsSame to more (end_of more 0 to.tail put) now)) (sym first_is)
      (subst (λ (r : Row). GrowsTwo R S l free after cpu (from ∷ to ∷ []) (a ∷ b ∷ []) 0 grew.first cut 1 r put (λ fresh now. GrowsSame grew.first fresh (end_of fresh 0 grew.first.tail cut) now) (λ more now. GrowsSame r more (end_of more 0 r.tail put) now)) (sym second_is) grew.step)

  -- Both rows are settled.
  pub moves_both : {c d : Row} (len : ℕ) → DropsName a name time c → EachOnce c.names → len ≡ entry_length (Name (record { operation = Add; inode = i; time = time; name = other })) → AddsName b other i (b.tail - len) time d → EachOnce d.names
      → GrowsTwo R S l free after cpu (from ∷ to ∷ []) (c ∷ d ∷ []) 0 from cut 1 to put (λ fresh now. LosesName from name i time fresh now) (λ more now. GetsName to other i time more now)
  moves_both {c} {d} len drops once_c length_is adds once_d =
      let step = grown in
      let first_is : a ≡ step.first_now = (let e = step.put in cc) in
      let second_is : b ≡ step.second_now = (let e = step.put in cc) in
      let lost = subst (λ (r : Row). GrowsSame from step.fresh (end_of step.fresh 0 from.tail cut) r) (sym first_is) step.is in
      let got = subst (λ (r : Row). GrowsSame to step.more (end_of step.more 0 to.tail put) r) (sym second_is) step.other_is in
      let ends : b.tail ≡ end_of step.more 0 to.tail put = got.tail in
      record {
        first_now = c;
        second_now = d;
        at = refl;
        other_at = refl;
        fresh = step.fresh;
        more = step.more;
        taken = step.taken;
        count = step.count;
        more_count = step.more_count;
        is = drops_after name time lost drops;
        other_is = adds_after other i time got adds (place_is b.tail len step.more to.tail i other time ends length_is);
        once = (step.once.0, once_c);
        other_once = (step.other_once.0, once_d);
        put = refl;
        shows = step.shows;
      }

-- ---- a stop

-- What a stop leaves of a name that goes over, by what it leaves of both logs.
pub left_over : {R : Region} {l : Layout} {free : FreeLists} {cpu : ℕ} {held : Store} (from to : Row) (i : ℕ) (name other : List ℕ) (time : ℕ) → name_at to.names other ≡ None
    → (left : Region) → LeavesEither R l held (AppendedBoth R l free cpu from (name_entries Remove i name time) to (name_entries Add i other time)) left → LeavesEither R l held (MovedOver R l free cpu from to i name other time) left
left_over from to i name other time absent left (inl same) = inl same
left_over {R} {l} {free} from to i name other time absent left (inr w) =
    let made = w.1 in
    let a = made.1 in
    let b = made.2 in
    let grew = made.3 in
    let step = grew.step in
    let got = step.other_is in
    let len = entry_length (Name (record { operation = Add; inode = i; time = time; name = other })) in
    let first_is : step.first_now ≡ a = at_first step.put in
    let second_is : step.second_now ≡ b = at_second step.put in
    let same_names : name_at b.names other ≡ name_at to.names other = ap (λ (r : Row). name_at r.names other) (sym second_is) ∙ got.names other ∙ ap (λ (r : Row). name_at r.names other) (same_Some _ _ (sym step.other_at)) in
    inr (
      w.0,
      (
        made.0,
        dropped_row a name time,
        added_row b other i (b.tail - len) time,
        moves_both grew len
            (record { rest = record { inode = refl; kind = refl; head = refl; tail = refl; pages = refl; index = refl }; numbers = refl; names = λ q. found_without a.names.names name q })
            (once_without a.names.names name (subst (λ (r : Row). EachOnce r.names) first_is step.once.1)) refl
            (record { rest = record { inode = refl; kind = refl; head = refl; tail = refl; pages = refl; index = refl }; numbers = refl; names = λ q. refl })
            (named_once b other i (b.tail - len) (subst (λ (r : Row). EachOnce r.names) second_is step.other_once.1) (same_names ∙ absent)),
      ),
    )
  where
    at_first : {x y z w : Row} → (z ∷ w ∷ []) ≡ (x ∷ y ∷ []) → x ≡ z
    at_first same = sym (same_Some _ _ (ap (λ (rs : List Row). slice_get rs 0) same))

    at_second : {x y z w : Row} → (z ∷ w ∷ []) ≡ (x ∷ y ∷ []) → y ≡ w
    at_second same = sym (same_Some _ _ (ap (λ (rs : List Row). slice_get rs 1) same))
