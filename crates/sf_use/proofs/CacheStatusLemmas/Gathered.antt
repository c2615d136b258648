-- What a function gives of the elements of a list, one by one.
use Rattle.std.proofs.Common.{◌≡◌, ℕ, ◌+◌, ◌<◌, List, [], ◌∷◌, ◌++◌, Option, None, Some}
use Rattle.std.proofs.Common.{sym, ap, ◌∙◌, append-nil, take, length, get_or}
use Rattle.std.specs.List.{cons_option, filter_map}
use Rattle.std.proofs.lemmas.List.{take_more}
use Rattle.std.proofs.lemmas.List.Elements.{filter_map-append}

module _ {X Y : Type 0} (f : X → Option Y) where
  step : (xs : List X) (i : ℕ) (x : X) → i < length xs → x ≡ get_or xs i x
      → filter_map f (take (i + 1) xs) ≡ filter_map f (take i xs) ++ cons_option (f x) []
  step xs i x inside is =
      ap (filter_map f) (take_more xs i x inside ∙ ap (λ y. take i xs ++ y ∷ []) (sym is))
      ∙ filter_map-append f (take i xs) (x ∷ [])

  pub one_given : (xs : List X) (i : ℕ) (x : X) (y : Y) (ys zs : List Y) → i < length xs
      → x ≡ get_or xs i x → ys ≡ filter_map f (take i xs) → Some y ≡ f x → zs ≡ ys ++ y ∷ []
      → zs ≡ filter_map f (take (i + 1) xs)
  one_given xs i x y ys zs inside is so_far given pushed =
      let more : filter_map f (take (i + 1) xs) ≡ filter_map f (take i xs) ++ y ∷ [] =
      step xs i x inside is ∙ ap (λ o. filter_map f (take i xs) ++ cons_option o []) (sym given) in
      pushed ∙ ap (λ l. l ++ y ∷ []) so_far ∙ sym more

  pub none_given : (xs : List X) (i : ℕ) (x : X) (ys : List Y) → i < length xs
      → x ≡ get_or xs i x → ys ≡ filter_map f (take i xs) → None ≡ f x
      → ys ≡ filter_map f (take (i + 1) xs)
  none_given xs i x ys inside is so_far given =
      let more : filter_map f (take (i + 1) xs) ≡ filter_map f (take i xs) =
      step xs i x inside is ∙ ap (λ o. filter_map f (take i xs) ++ cons_option o []) (sym given)
      ∙ append-nil (filter_map f (take i xs)) in
      so_far ∙ sym more
