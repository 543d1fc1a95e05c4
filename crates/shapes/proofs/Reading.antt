-- What a shape reads, where its positions lie, and its leaves started anew. Assumes nothing.
use Rattle.std.proofs.Common.{◌≡◌, ℕ, suc, ◌+◌, ◌<◌, ◌≤◌, Bool, true, false, MatchBool, ◌⊎◌, List, ◌++◌, length, get_or, take, drop, sym, refl, ap, ◌∙◌, subst, inl, inr, ⊎_elim, arith}
use Rattle.std.proofs.lemmas.List.{length-append, length-take, length-drop, get_or_append_left, get_or-append-add, get_or-take, get_or-drop, drop-drop, drop-take, take-append-drop, take-take, take_all}
use Rattle.std.proofs.lemmas.Bool.{cases_lt}
use Rattle.shapes.specs.Shapes.{Shape, leaf, concat, number, size, depth, occurs, widest, end, reading, EndsBeyond, EndsWithin, TooFew, Reaches, Started, Alike, restarted}
use Rattle.shapes.specs.Places.{Placed, here, on_left, on_right}

pub placed_within : {t : Shape} {p place level : ℕ} → Placed t p place level → p < size t
placed_within (here lt) = lt
placed_within (on_left h) = omega (arith, placed_within h)
placed_within (on_right h) = omega (arith, placed_within h)

pub placed_end : {t : Shape} {p place level : ℕ} → Placed t p place level → place < end t
placed_end (here lt) = omega arith
placed_end (on_left h) = omega (arith, placed_end h)
placed_end (on_right h) = omega (arith, placed_end h)

-- the level of a leaf is at most the depth
pub placed_level : {t : Shape} {p place level : ℕ} → Placed t p place level → level ≤ depth t
placed_level (here lt) = omega arith
placed_level (on_left h) = omega (arith, placed_level h)
placed_level (on_right h) = omega (arith, placed_level h)

module _ {A : Type 0} (xs : List A) where
  pub reading_length : (t : Shape) → end t ≤ length xs → length (reading xs t) ≡ size t
  reading_length (leaf i s n) h = length-take n (drop s xs) ∙ omega (arith, length-drop s xs)
  reading_length (concat i l r) h = length-append (reading xs l) (reading xs r) ∙ omega (arith, reading_length l (omega arith), reading_length r (omega arith))

  -- what lies at the place of a position is what is read there
  pub placed_reads : {t : Shape} {p place level : ℕ} → Placed t p place level → end t ≤ length xs → (d : A) → get_or (reading xs t) p d ≡ get_or xs place d
  placed_reads (here {i} {s} {n} {p} lt) h d = get_or-take n (drop s xs) p d lt ∙ get_or-drop s xs p d
  placed_reads (on_left {i} {p} {place} {level} {l} {r} at) h d =
      let long = reading_length l (omega arith) in
      get_or_append_left (reading xs l) (reading xs r) d p (omega (arith, placed_within at)) ∙ placed_reads at (omega arith) d
  placed_reads (on_right {i} {p} {place} {level} {l} {r} at) h d =
      ap (λ k. get_or (reading xs l ++ reading xs r) (k + p) d) (sym (reading_length l (omega arith))) ∙ get_or-append-add (reading xs l) (reading xs r) p d ∙ placed_reads at (omega arith) d

  joined_takes : (a b n : ℕ) → take a (drop n xs) ++ take b (drop (n + a) xs) ≡ take (a + b) (drop n xs)
  joined_takes a b n =
      let ys = drop n xs in
      ap (λ zs. take a ys ++ take b zs) (sym (drop-drop a n xs))
      ∙ ap (λ zs. zs ++ take b (drop a ys)) (sym (take-take a (a + b) ys (omega arith)))
      ∙ ap (λ zs. take a (take (a + b) ys) ++ zs) (sym (drop-take a b ys))
      ∙ take-append-drop a (take (a + b) ys)

  pub started_reading : (n : ℕ) (t : Shape) → Started n t → reading xs t ≡ take (size t) (drop n xs)
  started_reading n (leaf i s k) h = ap (λ b. take k (drop b xs)) h
  started_reading n (concat i l r) h =
      ap (λ ys. ys ++ reading xs r) (started_reading n l h.0) ∙ ap (λ ys. take (size l) (drop n xs) ++ ys) (started_reading (n + size l) r h.1) ∙ joined_takes (size l) (size r) n

  -- a shape with its leaves started from 0 reads a strip of its length as it lies
  pub started_whole : (t : Shape) → Started 0 t → size t ≡ length xs → reading xs t ≡ xs
  started_whole t h e = started_reading 0 t h ∙ take_all (size t) xs (omega arith)

pub started_end : (n : ℕ) (t : Shape) → Started n t → end t ≡ n + size t
started_end n (leaf i s k) h = omega arith
started_end n (concat i l r) h = omega (arith, started_end n l h.0, started_end (n + size l) r h.1)

pub restarted_size : (n : ℕ) (t : Shape) → size (restarted n t) ≡ size t
restarted_size n (leaf i s k) = refl
restarted_size n (concat i l r) = omega (arith, restarted_size n l, restarted_size (n + size l) r)

pub restarted_depth : (n : ℕ) (t : Shape) → depth (restarted n t) ≡ depth t
restarted_depth n (leaf i s k) = refl
restarted_depth n (concat i l r) = omega (arith, restarted_depth n l, restarted_depth (n + size l) r)

pub restarted_number : (n : ℕ) (t : Shape) → number (restarted n t) ≡ number t
restarted_number n (leaf i s k) = refl
restarted_number n (concat i l r) = refl

pub restarted_widest : (n : ℕ) (t : Shape) → widest (restarted n t) ≡ widest t
restarted_widest n (leaf i s k) = refl
restarted_widest n (concat i l r) = omega (arith, restarted_widest n l, restarted_widest (n + size l) r)

pub restarted_occurs : (k n : ℕ) (t : Shape) → occurs k (restarted n t) ≡ occurs k t
restarted_occurs k n (leaf i s z) = refl
restarted_occurs k n (concat i l r) = omega (arith, restarted_occurs k n l, restarted_occurs k (n + size l) r)

pub restarted_started : (n : ℕ) (t : Shape) → Started n (restarted n t)
restarted_started n (leaf i s k) = refl
restarted_started n (concat i l r) =
    (restarted_started n l, subst (λ b. Started b (restarted (n + size l) r)) (omega (arith, restarted_size n l)) (restarted_started (n + size l) r))

pub restarted_alike : (n : ℕ) (t : Shape) → Alike t (restarted n t)
restarted_alike n (leaf i s k) = (refl, refl)
restarted_alike n (concat i l r) = (refl, restarted_alike n l, restarted_alike (n + size l) r)

end_beyond : (n : ℕ) (t : Shape) → n < end t → EndsBeyond n t
end_beyond n (leaf i s k) h = h
end_beyond n (concat i l r) h = ⊎_elim (λ a. inl (end_beyond n l a)) (λ b. inr (end_beyond n r (omega arith))) (cases_lt n (end l))

end_within : (n : ℕ) (t : Shape) → end t ≤ n → EndsWithin n t
end_within n (leaf i s k) h = h
end_within n (concat i l r) h = (end_within n l (omega arith), end_within n r (omega arith))

not_within : (n : ℕ) (t : Shape) → EndsBeyond n t → EndsWithin n t → ⊥
not_within n (leaf i s k) h w = omega arith
not_within n (concat i l r) h w = ⊎_elim (λ a. not_within n l a w.0) (λ b. not_within n r b w.1) h

-- the largest end tells how far the leaves reach
pub reaches_end : (t : Shape) (k : ℕ) → end t ≡ k → Reaches t k
reaches_end t k e = record { beyond = λ n lt. let some = end_beyond n t (omega arith) in record { beyond = some; not_within = not_within n t some }; within = λ n le. end_within n t (omega arith) }

-- so a test of that number tells it
pub reaches_told : (b : Bool) (t : Shape) (n k : ℕ) → Reaches t k → MatchBool b (k ≤ n) (n < k) → MatchBool b (EndsWithin n t) (TooFew n t)
reaches_told true t n k reaches le = reaches.within n le
reaches_told false t n k reaches lt = reaches.beyond n lt

-- how a position came to its place
Ways : Shape → (p place level : ℕ) → Type 0
Ways (leaf i s n) p place level = (place ≡ s + p) × (level ≡ 0)
Ways (concat i l r) p place level = ((m : ℕ) × (level ≡ suc m) × Placed l p place m) ⊎ ((q : ℕ) × (m : ℕ) × (level ≡ suc m) × (p ≡ size l + q) × Placed r q place m)

ways : {t : Shape} {p place level : ℕ} → Placed t p place level → Ways t p place level
unfolding Ways
ways (here lt) = (refl, refl)
ways (on_left {i} {p} {place} {level} h) = inl (level, refl, h)
ways (on_right {i} {p} {place} {level} h) = inr (p, level, refl, refl, h)

-- a position has one place, and its leaf one level
pub placed_only : (t : Shape) {p a m b k : ℕ} → Placed t p a m → Placed t p b k → (a ≡ b) × (m ≡ k)
unfolding Ways
placed_only (leaf i s n) g h = ((ways g).0 ∙ sym (ways h).0, (ways g).1 ∙ sym (ways h).1)
placed_only (concat i l r) {p} {a} {m} {b} {k} g h =
    ⊎_elim
    (λ gl. ⊎_elim
    (λ hl. let one = placed_only l gl.2 hl.2 in (one.0, omega (arith, gl.1, hl.1, one.1)))
    (λ hr. absurd (omega (arith, placed_within gl.2, hr.3)))
    (ways h))
    (λ gr. ⊎_elim
    (λ hl. absurd (omega (arith, placed_within hl.2, gr.3)))
    (λ hr. let there : Placed r gr.0 b hr.1 = subst (λ q. Placed r q b hr.1) (omega (arith, gr.3, hr.3)) hr.4 in let one = placed_only r gr.4 there in (one.0, omega (arith, gr.2, hr.2, one.1)))
    (ways h))
    (ways g)
