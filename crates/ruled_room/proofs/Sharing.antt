-- Seats are cut and joined.
use Rattle.std.proofs.Common.{◌≡◌, ◌≢◌, ◌⊎◌, ℕ, zero, suc, Bool, List, [], ◌∷◌, ◌++◌, length, get_or, set, refl, sym, ap, ◌∙◌, subst, inl, inr, ⊎_elim, arith, Option, Some, None, eqb, eq-eqb, ne_eqb, cond}
use Rattle.std.proofs.lemmas.List.{length-set}
use mathlib.Core.Option.{some, some-injective, some-ne-none}
use lib.ListN.{get_elem?}
use Rattle.atomic_table.specs.Table.{Splits, Joins}
use Rattle.atomic_table.proofs.Lists.{at_set, set_else}
use Rattle.room_spec.specs.Rooms.{RoomSpec}
use Rattle.ruled_room.specs.declared.rule.Progress.{Progress}
use Rattle.ruled_room.specs.declared.rule.View.{View}
use Rattle.ruled_room.specs.Views.{progress_in, only, alone, nobody, without, given, with_back}
use Rattle.ruled_room.specs.Rule.{AreHeldBy, IsBlank, IsRunning, Kept}
use Rattle.ruled_room.proofs.Moving.{only-here, only-else}

update : (ℕ → ℕ) → ℕ → ℕ → ℕ → ℕ
update f i x j = cond (eqb j i) x (f j)

update-here : (f : ℕ → ℕ) (i x j : ℕ) → j ≡ i → update f i x j ≡ x
unfolding update
update-here f i x j e = ap (λ (b : Bool). cond b x (f j)) (eq-eqb j i e)

update-else : (f : ℕ → ℕ) (i x j : ℕ) → j ≢ i → update f i x j ≡ f j
unfolding update
update-else f i x j n = ap (λ (b : Bool). cond b x (f j)) (ne_eqb j i n)

at_end : {A : Type 0} (l : List A) (a b : A) (j : ℕ) → get_elem? (l ++ a ∷ []) j ≡ some b → (get_elem? l j ≡ some b) ⊎ ((j ≡ length l) × (a ≡ b))
at_end [] a b zero e = inr (refl, some-injective a b e)
at_end [] a b (suc j) e = absurd (some-ne-none b (sym e))
at_end (x ∷ xs) a b zero e = inl e
at_end (x ∷ xs) a b (suc j) e = ⊎_elim (λ (t : get_elem? xs j ≡ some b). inl t) (λ (t : (j ≡ length xs) × (a ≡ b)). inr (ap suc t.0, t.1)) (at_end xs a b j e)

-- what is left once n is taken out
pub left_over : {X : Type 0} (l : List (Option X)) (n j : ℕ) (y : X) → get_or (set l n None) j None ≡ Some y → (j ≢ n) × (get_or l j None ≡ Some y)
left_over [] n j y e = absurd (cc)
left_over (x ∷ xs) zero zero y e = absurd (cc)
left_over (x ∷ xs) zero (suc j) y e = ((λ q. omega arith), e)
left_over (x ∷ xs) (suc n) zero y e = ((λ q. omega arith), e)
left_over (x ∷ xs) (suc n) (suc j) y e = let h = left_over xs n j y e in ((λ q. h.0 (omega arith)), h.1)

none_left : (l : List (Option Progress)) (n j : ℕ) → get_or l j None ≡ None → get_or (set l n None) j None ≡ None
none_left [] n j e = e
none_left (x ∷ xs) zero zero e = refl
none_left (x ∷ xs) zero (suc j) e = e
none_left (x ∷ xs) (suc n) zero e = e
none_left (x ∷ xs) (suc n) (suc j) e = none_left xs n j e

pub put_in : {X : Type 0} (l : List (Option X)) (n j : ℕ) (x y : X) → get_or (set l n (Some x)) j None ≡ Some y → ((j ≡ n) × (x ≡ y)) ⊎ (get_or l j None ≡ Some y)
put_in [] n j x y e = inr e
put_in (z ∷ zs) zero zero x y e = inl (refl, cc)
put_in (z ∷ zs) zero (suc j) x y e = inr e
put_in (z ∷ zs) (suc n) zero x y e = inr e
put_in (z ∷ zs) (suc n) (suc j) x y e = ⊎_elim (λ (t : (j ≡ n) × (x ≡ y)). inl (ap suc t.0, t.1)) (λ (t : get_or zs j None ≡ Some y). inr t) (put_in zs n j x y e)

cut_running : (s : RoomSpec) (words : List ℕ) (views : List View) (id n : ℕ) (v : View) (o : Option Progress) → progress_in v n ≡ o → get_elem? views id ≡ some v → IsRunning s words views → IsRunning s words (set views id (without n v) ++ given v.spec n o ∷ [])
cut_running s words views id n v None none at r = record { simulators = r.simulators; owner = r.owner; begun = r.begun; long = r.long; run = r.run; held = held }
  where
    held : AreHeldBy r.owner r.simulators (set views id (without n v) ++ nobody v.spec ∷ [])
    held k u j y e m = ⊎_elim
        (λ (was : get_elem? (set views id (without n v)) k ≡ some u). ⊎_elim
        (λ (t : (k ≡ id) × (without n v ≡ u)).
        let left = left_over v.held n j y (subst (λ (w : View). progress_in w j ≡ Some y) (sym t.1) m) in
        let h = r.held id v j y at left.1 in (h.0 ∙ sym t.0, h.1))
        (λ (t : (k ≢ id) × (get_elem? views k ≡ some u)). r.held k u j y t.1 m)
        (at_set views id k (without n v) u was))
        (λ (t : (k ≡ length (set views id (without n v))) × (nobody v.spec ≡ u)). absurd (let q = subst (λ (w : View). progress_in w j ≡ Some y) (sym t.1) m in cc))
        (at_end (set views id (without n v)) (nobody v.spec) u k e)
cut_running s words views id n v (Some x) there at r = record { simulators = r.simulators; owner = update r.owner n (length views); begun = r.begun; long = r.long; run = r.run; held = held }
  where
    held : AreHeldBy (update r.owner n (length views)) r.simulators (set views id (without n v) ++ alone v.spec n x ∷ [])
    held k u j y e m =
        let mine = r.held id v n x at there in
        ⊎_elim
        (λ (was : get_elem? (set views id (without n v)) k ≡ some u). ⊎_elim
        (λ (t : (k ≡ id) × (without n v ≡ u)).
        let left = left_over v.held n j y (subst (λ (w : View). progress_in w j ≡ Some y) (sym t.1) m) in
        let h = r.held id v j y at left.1 in (update-else r.owner n (length views) j left.0 ∙ h.0 ∙ sym t.0, h.1))
        (λ (t : (k ≢ id) × (get_elem? views k ≡ some u)).
        let h = r.held k u j y t.1 m in
        (update-else r.owner n (length views) j (λ same. t.0 (sym h.0 ∙ ap r.owner same ∙ mine.0)) ∙ h.0, h.1))
        (at_set views id k (without n v) u was))
        (λ (t : (k ≡ length (set views id (without n v))) × (alone v.spec n x ≡ u)).
        let w = only-else n x j y (subst (λ (q : View). progress_in q j ≡ Some y) (sym t.1) m) in
        (update-here r.owner n (length views) j w.0 ∙ sym (t.0 ∙ length-set views id (without n v)), subst (λ (q : ℕ × Progress). get_elem? r.simulators q.0 ≡ some q.1) (λ p. (sym w.0 p, sym w.1 p)) mine.1))
        (at_end (set views id (without n v)) (alone v.spec n x) u k e)

cut_blank : (s : RoomSpec) (words : List ℕ) (views : List View) (id n : ℕ) (v : View) (o : Option Progress) → progress_in v n ≡ o → get_elem? views id ≡ some v → IsBlank s words views → IsBlank s words (set views id (without n v) ++ given v.spec n o ∷ [])
cut_blank s words views id n v (Some x) there at b = absurd (let e = b.nobody id v n at in cc)
cut_blank s words views id n v None none at b = record { zeros = b.zeros; nobody = empty }
  where
    empty : (k : ℕ) (u : View) (j : ℕ) → get_elem? (set views id (without n v) ++ nobody v.spec ∷ []) k ≡ some u → progress_in u j ≡ None
    empty k u j e = ⊎_elim
        (λ (was : get_elem? (set views id (without n v)) k ≡ some u). ⊎_elim
        (λ (t : (k ≡ id) × (without n v ≡ u)). subst (λ (w : View). progress_in w j ≡ None) t.1 (none_left v.held n j (b.nobody id v j at)))
        (λ (t : (k ≢ id) × (get_elem? views k ≡ some u)). b.nobody k u j t.1)
        (at_set views id k (without n v) u was))
        (λ (t : (k ≡ length (set views id (without n v))) × (nobody v.spec ≡ u)). subst (λ (w : View). progress_in w j ≡ None) t.1 refl)
        (at_end (set views id (without n v)) (nobody v.spec) u k e)

pub cuts : {S : Type 0} (s : RoomSpec) (id n : ℕ) (v : View) → Splits {S = S} (Kept s) id v (without n v) (given v.spec n (progress_in v n))
cuts s id n v t kept at = ⊎_elim
    (λ (b : IsBlank s t.words t.views). inl (cut_blank s t.words t.views id n v (progress_in v n) refl at b))
    (λ (r : IsRunning s t.words t.views). inr (cut_running s t.words t.views id n v (progress_in v n) refl at r))
    kept

join_running : (s spent : RoomSpec) (words : List ℕ) (views : List View) (id other n : ℕ) (v w : View) (x : Progress) (both : View) → both ≡ record { spec = v.spec; held = set v.held n (Some x) }
    → get_elem? views id ≡ some v → other ≢ id → get_elem? views other ≡ some w → w.held ≡ only n x → IsRunning s words views → IsRunning s words (set (set views id both) other (nobody spent))
join_running s spent words views id other n v w x both is at apart there alone-is r = record { simulators = r.simulators; owner = update r.owner n id; begun = r.begun; long = r.long; run = r.run; held = held }
  where
    held : AreHeldBy (update r.owner n id) r.simulators (set (set views id both) other (nobody spent))
    held k u j y e m =
        let mine = r.held other w n x there (ap (λ (l : List (Option Progress)). get_or l n None) alone-is ∙ only-here n x) in
        ⊎_elim
        (λ (a : (k ≡ other) × (nobody spent ≡ u)). absurd (let q = subst (λ (w : View). progress_in w j ≡ Some y) (sym a.1) m in cc))
        (λ (t : (k ≢ other) × (get_elem? (set views id both) k ≡ some u)). ⊎_elim
        (λ (a : (k ≡ id) × (both ≡ u)). ⊎_elim
        (λ (q : (j ≡ n) × (x ≡ y)). (update-here r.owner n id j q.0 ∙ sym a.0, subst (λ (p : ℕ × Progress). get_elem? r.simulators p.0 ≡ some p.1) (λ i. (sym q.0 i, q.1 i)) mine.1))
        (λ (q : get_or v.held j None ≡ Some y).
        let h = r.held id v j y at q in
        (update-else r.owner n id j (λ same. apart (sym mine.0 ∙ ap r.owner (sym same) ∙ h.0)) ∙ h.0 ∙ sym a.0, h.1))
        (put_in v.held n j x y (subst (λ (w : View). progress_in w j ≡ Some y) (sym a.1 ∙ is) m)))
        (λ (a : (k ≢ id) × (get_elem? views k ≡ some u)).
        let h = r.held k u j y a.1 m in
        (update-else r.owner n id j (λ same. t.0 (sym h.0 ∙ ap r.owner same ∙ mine.0)) ∙ h.0, h.1))
        (at_set views id k both u t.1))
        (at_set (set views id both) other k (nobody spent) u e)

pub joins : {S : Type 0} (s spent : RoomSpec) (id other n : ℕ) (v w : View) (x : Progress) → w.held ≡ only n x → Joins {S = S} (Kept s) id v other w (with_back n v w) (nobody spent)
joins s spent id other n v w x is t kept at apart there =
    let there' : get_elem? t.views other ≡ some w = sym (set_else t.views id other (with_back n v w) apart) ∙ there in
    let here : progress_in w n ≡ Some x = ap (λ (l : List (Option Progress)). get_or l n None) is ∙ only-here n x in
    let both-is : with_back n v w ≡ record { spec = v.spec; held = set v.held n (Some x) } = ap (λ (o : Option Progress). record { spec = v.spec; held = set v.held n o }) here in
    ⊎_elim
    (λ (b : IsBlank s t.words t.views). absurd (let e = b.nobody other w n there' in cc))
    (λ (r : IsRunning s t.words t.views). inr (join_running s spent t.words t.views id other n v w x (with_back n v w) both-is at apart there' is r))
    kept
