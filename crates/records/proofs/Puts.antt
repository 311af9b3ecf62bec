-- One put into a ring, as lists.
use Rattle.std.proofs.Common.{◌≡◌, ℕ, ◌+◌, ◌-◌, ◌<◌, ◌≤◌, min, cond, ltb, List, [], ◌∷◌, ◌++◌, length, take, drop, set, sym, refl, ap, ◌∙◌, inl, inr, arith}
use Rattle.std.proofs.lemmas.List.{append-nil, append_assoc, length-append, length-take, length-drop, length-set, take_more_set, drop_more, drop_all, drop-set-lt, nil_from_length}
use Rattle.std.proofs.lemmas.Slice.{between_is}
use Rattle.std.proofs.lemmas.Bool.{cond-true, cond-false, lt-ltb, le-ltb, cases_lt}
use Rattle.records.specs.Kept.{count_after, room_of, place_of, following, next_after, places_after, older, newer, kept, last_of}

-- the place, as the count and the next place have it
place_young : (room n c : ℕ) → c < room → place_of room n c ≡ c
place_young room n c h = cond-true (ltb c room) c _ (lt-ltb c room h)

place_full : (room n c : ℕ) → room ≤ c → n < room → place_of room n c ≡ n
place_full room n c h k = cond-false (ltb c room) c _ (le-ltb c room h) ∙ cond-true (ltb n room) n 0 (lt-ltb n room k)

place_first : (room n c : ℕ) → room ≤ c → room ≤ n → place_of room n c ≡ 0
place_first room n c h k = cond-false (ltb c room) c _ (le-ltb c room h) ∙ cond-false (ltb n room) n 0 (le-ltb n room k)

pub place_within : (room n c : ℕ) → 0 < room → place_of room n c < room
place_within room n c h =
    elim (cases_lt c room) [
      | inl young ↦ omega (arith, place_young room n c young)
      | inr full ↦ elim (cases_lt n room) [ inl k ↦ omega (arith, place_full room n c full k) | inr k ↦ omega (arith, place_first room n c full k) ]
    ]

pub place_most : (room n c : ℕ) → place_of room n c ≤ room
place_most room n c =
    elim (cases_lt c room) [
      | inl young ↦ omega (arith, place_young room n c young)
      | inr full ↦ elim (cases_lt n room) [ inl k ↦ omega (arith, place_full room n c full k) | inr k ↦ omega (arith, place_first room n c full k) ]
    ]

following_goes : (room p : ℕ) → p + 1 < room → following room p ≡ p + 1
following_goes room p h = cond-true (ltb (p + 1) room) (p + 1) 0 (lt-ltb (p + 1) room h)

following_turns : (room p : ℕ) → room ≤ p + 1 → following room p ≡ 0
following_turns room p h = cond-false (ltb (p + 1) room) (p + 1) 0 (le-ltb (p + 1) room h)

module _ {A : Type 0} where
  -- until each place has an element, the ring keeps the first places; afterwards it keeps all from the next place round
  pub older_young : (ps : List A) (n c : ℕ) → c < room_of ps → older ps n c ≡ []
  unfolding older
  older_young ps n c h = cond-true (ltb c (room_of ps)) [] _ (lt-ltb c (room_of ps) h)

  pub older_full : (ps : List A) (n c : ℕ) → room_of ps ≤ c → older ps n c ≡ drop (place_of (room_of ps) n c) (take (room_of ps) ps)
  unfolding older
  older_full ps n c h = cond-false (ltb c (room_of ps)) [] _ (le-ltb c (room_of ps) h)

  -- the older part, as the code takes it: from the oldest place to the last
  pub older_is : (ps : List A) (n c o : ℕ) → o ≡ cond (ltb c (room_of ps)) (room_of ps) (place_of (room_of ps) n c) → take (room_of ps - o) (drop o ps) ≡ older ps n c
  older_is ps n c o e = elim (cases_lt c (room_of ps)) [
    | inl h ↦
        let z : room_of ps - o ≡ 0 = omega (arith, e, cond-true (ltb c (room_of ps)) (room_of ps) (place_of (room_of ps) n c) (lt-ltb c (room_of ps) h)) in
        ap (λ m. take m (drop o ps)) z ∙ sym (older_young ps n c h)
    | inr h ↦
        between_is ps o (room_of ps) ∙ ap (λ p. drop p (take (room_of ps) ps)) (e ∙ cond-false (ltb c (room_of ps)) (room_of ps) (place_of (room_of ps) n c) (le-ltb c (room_of ps) h)) ∙ sym (older_full ps n c h)
  ]

  kept_young : (ps : List A) (n c : ℕ) → c < room_of ps → kept ps n c ≡ take c ps
  unfolding kept newer
  kept_young ps n c h =
      ap (λ (z : List A). z ++ take (place_of (room_of ps) n c) ps) (older_young ps n c h) ∙ ap (λ p. take p ps) (place_young (room_of ps) n c h)

  kept_turned : (ps : List A) (n c : ℕ) → room_of ps ≤ c → kept ps n c ≡ drop (place_of (room_of ps) n c) (take (room_of ps) ps) ++ take (place_of (room_of ps) n c) ps
  unfolding kept newer
  kept_turned ps n c h = ap (λ (z : List A). z ++ take (place_of (room_of ps) n c) ps) (older_full ps n c h)

  kept_full : (ps : List A) (n c : ℕ) → room_of ps ≤ c → n < room_of ps → kept ps n c ≡ drop n (take (room_of ps) ps) ++ take n ps
  kept_full ps n c h k = kept_turned ps n c h ∙ ap (λ p. drop p (take (room_of ps) ps) ++ take p ps) (place_full (room_of ps) n c h k)

  -- a ring keeps as many as were put, up to its places
  pub length_kept : (ps : List A) (n c : ℕ) → length (kept ps n c) ≡ min c (room_of ps)
  length_kept ps n c =
      elim (cases_lt c (room_of ps)) [
        | inl h ↦ ap length (kept_young ps n c h) ∙ length-take c ps ∙ omega arith
        | inr h ↦
            let p = place_of (room_of ps) n c in
            let m = place_most (room_of ps) n c in
            ap length (kept_turned ps n c h) ∙ simp (length-append, length-take, length-drop) (omega arith)
      ]

  pub kept_new : (ps : List A) (n : ℕ) → kept ps n 0 ≡ []
  kept_new ps n = nil_from_length (kept ps n 0) (omega (arith, length_kept ps n 0))

  -- the last so many of a list that is no longer, or longer by one
  last_short : (n : ℕ) (xs : List A) → length xs ≤ n → last_of n xs ≡ xs
  unfolding last_of
  last_short n xs h = let e : length xs - n ≡ 0 = omega arith in rw e

  last_one : (n : ℕ) (xs : List A) → length xs ≡ n + 1 → last_of n xs ≡ drop 1 xs
  unfolding last_of
  last_one n xs h = let e : length xs - n ≡ 1 = omega arith in rw e

  last_none : (n : ℕ) (xs : List A) → n ≡ 0 → last_of n xs ≡ []
  unfolding last_of
  last_none n xs h = drop_all (length xs - n) xs (omega arith)

  -- what is to be kept after a put, in either state
  next_young : (ps : List A) (n c : ℕ) (x : A) → c < room_of ps → last_of (room_of ps) (kept ps n c ++ (x ∷ [])) ≡ take c ps ++ (x ∷ [])
  next_young ps n c x h =
      let s : length (take c ps ++ (x ∷ [])) ≤ room_of ps = simp (length-append, length-take) (omega arith) in
      rw (kept_young ps n c h) (last_short (room_of ps) (take c ps ++ (x ∷ [])) s)

  next_full : (ps : List A) (n c p : ℕ) (x : A) → room_of ps ≤ c → p ≡ place_of (room_of ps) n c → p < room_of ps
      → last_of (room_of ps) (kept ps n c ++ (x ∷ [])) ≡ drop (p + 1) (take (room_of ps) ps) ++ (take p ps ++ (x ∷ []))
  next_full ps n c p x h e k =
      let us = take (room_of ps) ps in
      let b : p < length us = simp length-take (omega arith) in
      let l : length ((drop p us ++ take p ps) ++ (x ∷ [])) ≡ room_of ps + 1 = simp (length-append, length-take, length-drop) (omega arith) in
      ap (λ (z : List A). last_of (room_of ps) (z ++ (x ∷ []))) (kept_turned ps n c h ∙ ap (λ q. drop q us ++ take q ps) (sym e))
      ∙ last_one (room_of ps) ((drop p us ++ take p ps) ++ (x ∷ [])) l
      ∙ ap (λ (d : List A). drop 1 ((d ++ take p ps) ++ (x ∷ []))) (drop_more us p x b)
      ∙ append_assoc (drop (p + 1) us) (take p ps) (x ∷ [])

  -- what lies behind a place is untouched by a write there
  behind : (ps : List A) (p r : ℕ) (x : A) → drop (p + 1) (take r (set ps p x)) ≡ drop (p + 1) (take r ps)
  behind ps p r x =
      let j : p < p + 1 = omega arith in
      sym (between_is (set ps p x) (p + 1) r) ∙ ap (take (r - (p + 1))) (drop-set-lt (p + 1) ps p x j) ∙ between_is ps (p + 1) r

  room_set : (ps : List A) (p : ℕ) (x : A) → room_of (set ps p x) ≡ room_of ps
  room_set ps p x = ap (λ l. min l 4294967295) (length-set ps p x)

  -- the whole ring after a write at its last place
  whole : (ps : List A) (p c : ℕ) (x : A) → p + 1 ≡ room_of ps → room_of ps ≤ c → kept (set ps p x) 0 c ≡ take p ps ++ (x ∷ [])
  whole ps p c x h k =
      let e = room_set ps p x in
      let b : p < length ps = omega arith in
      let full : room_of (set ps p x) ≤ c = omega (arith, e) in
      let some : 0 < room_of (set ps p x) = omega (arith, e) in
      kept_full (set ps p x) 0 c full some ∙ append-nil (take (room_of (set ps p x)) (set ps p x)) ∙ ap (λ r. take r (set ps p x)) (e ∙ sym h) ∙ take_more_set ps p x b

  -- until each place has an element
  put_young : (ps : List A) (n c : ℕ) (x : A) → c < room_of ps → kept (set ps c x) (following (room_of ps) c) (count_after c) ≡ take c ps ++ (x ∷ [])
  put_young ps n c x h =
      let b : c < length ps = omega arith in
      elim (cases_lt (c + 1) (room_of ps)) [
        | inl k ↦
            let e : count_after c ≡ c + 1 = omega arith in
            let y : count_after c < room_of (set ps c x) = omega (arith, room_set ps c x) in
            kept_young (set ps c x) _ (count_after c) y ∙ ap (λ m. take m (set ps c x)) e ∙ take_more_set ps c x b
        | inr k ↦
            ap (λ m. kept (set ps c x) m (count_after c)) (following_turns (room_of ps) c k) ∙ whole ps c (count_after c) x (omega arith) (omega arith)
      ]

  -- and afterwards
  put_full : (ps : List A) (p c : ℕ) (x : A) → p < room_of ps → room_of ps ≤ c
      → kept (set ps p x) (following (room_of ps) p) (count_after c) ≡ drop (p + 1) (take (room_of ps) ps) ++ (take p ps ++ (x ∷ []))
  put_full ps p c x h f =
      let e = room_set ps p x in
      let b : p < length ps = omega arith in
      elim (cases_lt (p + 1) (room_of ps)) [
        | inl k ↦
            let full : room_of (set ps p x) ≤ count_after c = omega (arith, e) in
            let fits : p + 1 < room_of (set ps p x) = omega (arith, e) in
            ap (λ m. kept (set ps p x) m (count_after c)) (following_goes (room_of ps) p k)
            ∙ kept_full (set ps p x) (p + 1) (count_after c) full fits
            ∙ ap (λ r. drop (p + 1) (take r (set ps p x)) ++ take (p + 1) (set ps p x)) e
            ∙ ap (λ (z : List A). z ++ take (p + 1) (set ps p x)) (behind ps p (room_of ps) x)
            ∙ ap (λ (z : List A). drop (p + 1) (take (room_of ps) ps) ++ z) (take_more_set ps p x b)
        | inr k ↦
            let none : drop (p + 1) (take (room_of ps) ps) ≡ [] = drop_all (p + 1) (take (room_of ps) ps) (simp length-take (omega arith)) in
            ap (λ m. kept (set ps p x) m (count_after c)) (following_turns (room_of ps) p k)
            ∙ whole ps p (count_after c) x (omega arith) (omega arith)
            ∙ ap (λ (z : List A). z ++ (take p ps ++ (x ∷ []))) (sym none)
      ]

  -- whatever the two numbers: after a put the ring keeps the last so many of what it kept and the new element
  put_law : (ps : List A) (n c : ℕ) (x : A) → kept (places_after ps n c x) (next_after (room_of ps) n c) (count_after c) ≡ last_of (room_of ps) (kept ps n c ++ (x ∷ []))
  put_law ps n c x =
      elim (cases_lt c (room_of ps)) [
        | inl young ↦
            ap (λ p. kept (set ps p x) (following (room_of ps) p) (count_after c)) (place_young (room_of ps) n c young)
            ∙ put_young ps n c x young
            ∙ sym (next_young ps n c x young)
        | inr full ↦
            elim (cases_lt 0 (room_of ps)) [
              | inl some ↦
                  let within = place_within (room_of ps) n c some in
                  put_full ps (place_of (room_of ps) n c) c x within full ∙ sym (next_full ps n c (place_of (room_of ps) n c) x full refl within)
              | inr none ↦
                  let after = places_after ps n c x in
                  let l = length_kept after (next_after (room_of ps) n c) (count_after c) in
                  let e = room_set ps (place_of (room_of ps) n c) x in
                  nil_from_length (kept after (next_after (room_of ps) n c) (count_after c)) (omega (arith, l, e)) ∙ sym (last_none (room_of ps) _ (omega arith))
            ]
      ]

  pub put_keeps : (ps qs : List A) (n c m d : ℕ) (x : A) → qs ≡ places_after ps n c x → m ≡ next_after (room_of ps) n c → d ≡ count_after c
      → kept qs m d ≡ last_of (room_of ps) (kept ps n c ++ (x ∷ []))
  put_keeps ps qs n c m d x eq em ed =
      ap (λ (z : List A). kept z m d) eq ∙ ap (λ z. kept (places_after ps n c x) z d) em ∙ ap (λ z. kept (places_after ps n c x) (next_after (room_of ps) n c) z) ed ∙ put_law ps n c x
