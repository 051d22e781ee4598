-- One directory behind another.
use Rattle.std.proofs.Common.{◌≡◌, ◌+◌, ◌<◌, ℕ, Bool, List, [], ◌∷◌, ◌++◌, length, get_or, map, take, drop, ◌-◌, ◌≤◌, arith, Result, Ok, Err, OnOk, refl, sym, ap, subst, ◌∙◌, append_assoc, append-nil, add-one}
use Rattle.std.proofs.Math.Seq.{take-suc}
use Rattle.std.proofs.lemmas.List.{map-append, take_all}
use Rattle.nv_folders.specs.Folders.{Spot, spot_of}
use Rattle.nv_folders.specs.declared.folder.Folder.{Folder}
use Rattle.nv_report.specs.Texts.{AddsText}
use Rattle.nv_scan.specs.declared.piece.Row.{Row}
use Rattle.nv_text.specs.Answers.{line}
use Rattle.nv_listing.specs.Folders.{AreFolderTexts, AreMoreTexts, IsFolderText}

-- a list by its first element and the others
split : (list : List Folder) (x : Folder) → 1 ≤ length list → x ≡ get_or list 0 x → list ≡ x ∷ take (length list - 1) (drop 1 list)
split [] x some is = absurd (omega (arith, some))
split (y ∷ ys) x some is = ap (λ (z : Folder). z ∷ ys) (sym is) ∙ ap (λ (zs : List Folder). x ∷ zs) (sym (take_all (length (y ∷ ys) - 1) ys (omega arith)))

module _ (long : Bool) (rows : List Row) where
  more_snoc : (folders : List Spot) (x : Spot) (text more : List ℕ) → AreMoreTexts long rows folders text → IsFolderText long rows x more → AreMoreTexts long rows (folders ++ x ∷ []) (text ++ (line [] ++ more))
  more_snoc [] x text more are is = (more, [], is, refl, ap (λ t. t ++ (line [] ++ more)) are ∙ ap (λ t. line [] ++ t) (sym (append-nil more)))
  more_snoc (y ∷ folders) x text more are is = (
    are.0,
    are.1 ++ (line [] ++ more),
    are.2,
    more_snoc folders x are.1 more are.3 is,
    ap (λ t. t ++ (line [] ++ more)) are.4 ∙ append_assoc (line []) (are.0 ++ are.1) (line [] ++ more) ∙ ap (λ t. line [] ++ t) (append_assoc are.0 are.1 (line [] ++ more)),
  )

  pub none_more : (old : List ℕ) → AddsText (AreMoreTexts long rows []) old old
  none_more old = ([], refl, sym (append-nil old))

  -- the text of the next directory of a list
  pub next_more : (list : List Folder) (k : ℕ) (x : Folder) (start old mid new : List ℕ) → k < length list → x ≡ get_or list k x → AddsText (AreMoreTexts long rows (map spot_of (take k list))) start old → mid ≡ old ++ line []
      → AddsText (IsFolderText long rows (spot_of x)) mid new → AddsText (AreMoreTexts long rows (map spot_of (take (k + 1) list))) start new
  next_more list k x start old mid new below is a gap b =
      let spots : map spot_of (take (k + 1) list) ≡ map spot_of (take k list) ++ spot_of x ∷ [] =
      ap (λ (n : ℕ). map spot_of (take n list)) (add-one k) ∙ ap (map spot_of) (take-suc list k x below) ∙ map-append spot_of (take k list) (get_or list k x ∷ []) ∙ ap (λ y. map spot_of (take k list) ++ spot_of y ∷ []) (sym is) in
      subst (λ (l : List Spot). AddsText (AreMoreTexts long rows l) start new) (sym spots) (
        a.0 ++ (line [] ++ b.0),
        more_snoc (map spot_of (take k list)) (spot_of x) a.0 b.0 a.1 b.1,
        b.2 ∙ ap (λ t. t ++ b.0) (gap ∙ ap (λ t. t ++ line []) a.2) ∙ append_assoc (start ++ a.0) (line []) b.0 ∙ append_assoc start a.0 (line [] ++ b.0),
      )

  -- the first directory, and the others behind it
  all_added : (x : Folder) (folders : List Folder) (old mid new : List ℕ) → AddsText (IsFolderText long rows (spot_of x)) old mid → AddsText (AreMoreTexts long rows (map spot_of folders)) mid new
      → AddsText (AreFolderTexts long rows (map spot_of (x ∷ folders))) old new
  all_added x folders old mid new a b = (a.0 ++ b.0, (a.0, b.0, a.1, b.1, refl), b.2 ∙ ap (λ t. t ++ b.0) a.2 ∙ append_assoc old a.0 b.0)

  -- the same of a list by its first element and the others
  pub list_added : {E : Type 0} (result : Result (Unit {0}) E) (list : List Folder) (x : Folder) (old mid new : List ℕ) → 1 ≤ length list → x ≡ get_or list 0 x → AddsText (IsFolderText long rows (spot_of x)) old mid
      → OnOk result (AddsText (AreMoreTexts long rows (map spot_of (take (length list - 1) (drop 1 list)))) mid new) → OnOk result (AddsText (AreFolderTexts long rows (map spot_of list)) old new)
  list_added (Err e) list x old mid new some is a b = tt
  list_added (Ok done) list x old mid new some is a b =
      subst (λ (l : List Folder). AddsText (AreFolderTexts long rows (map spot_of l)) old new) (sym (split list x some is)) (all_added x (take (length list - 1) (drop 1 list)) old mid new a b)
