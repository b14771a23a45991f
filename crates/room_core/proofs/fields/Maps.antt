-- Maps with one entry changed.
use Rattle.std.proofs.Common.{◌≡◌, ◌≢◌, ℕ, Bool, cond, refl, sym, ap, ◌∙◌, subst}
use Rattle.std.proofs.lemmas.Bool.{eq-eqb, ne_eqb}
use mathlib.Core.Logic.{dite}
use native.Mathlib.Decide.{ℕ_discrete}
use Rattle.room_core.specs.Fields.{changed, changed_pair, changed_triple}

pub changed_here : {A : Type 0} (map : ℕ → A) (i : ℕ) (entry : A) (a : ℕ) → a ≡ i → changed map i entry a ≡ entry
changed_here map i entry a same = ap (λ (b : Bool). cond b entry (map a)) (eq-eqb a i same)

pub changed_else : {A : Type 0} (map : ℕ → A) (i : ℕ) (entry : A) (a : ℕ) → a ≢ i → changed map i entry a ≡ map a
changed_else map i entry a other = ap (λ (b : Bool). cond b entry (map a)) (ne_eqb a i other)

pub pair_here : {A : Type 0} (map : ℕ → ℕ → A) (i j : ℕ) (entry : A) → changed_pair map i j entry i j ≡ entry
pair_here map i j entry = ap (λ (row : ℕ → _). row j) (changed_here map i (changed (map i) j entry) i refl) ∙ changed_here (map i) j entry j refl

pub pair_else : {A : Type 0} (map : ℕ → ℕ → A) (i j : ℕ) (entry : A) (a b : ℕ) → (a ≡ i → b ≡ j → ⊥) → changed_pair map i j entry a b ≡ map a b
pair_else map i j entry a b other = dite (ℕ_discrete a i)
    (λ (e : a ≡ i). ap (λ (row : ℕ → _). row b) (changed_here map i (changed (map i) j entry) a e) ∙ changed_else (map i) j entry b (other e) ∙ ap (λ (x : ℕ). map x b) (sym e))
    (λ (n : a ≢ i). ap (λ (row : ℕ → _). row b) (changed_else map i (changed (map i) j entry) a n))

pub triple_here : {A : Type 0} (map : ℕ → ℕ → ℕ → A) (i j k : ℕ) (entry : A) → changed_triple map i j k entry i j k ≡ entry
triple_here map i j k entry = ap (λ (row : ℕ → ℕ → _). row j k) (changed_here map i (changed_pair (map i) j k entry) i refl) ∙ pair_here (map i) j k entry

pub triple_else : {A : Type 0} (map : ℕ → ℕ → ℕ → A) (i j k : ℕ) (entry : A) (a b c : ℕ) → (a ≡ i → b ≡ j → c ≡ k → ⊥) → changed_triple map i j k entry a b c ≡ map a b c
triple_else map i j k entry a b c other = dite (ℕ_discrete a i)
    (λ (e : a ≡ i). ap (λ (row : ℕ → ℕ → _). row b c) (changed_here map i (changed_pair (map i) j k entry) a e) ∙ pair_else (map i) j k entry b c (other e) ∙ ap (λ (x : ℕ). map x b c) (sym e))
    (λ (n : a ≢ i). ap (λ (row : ℕ → ℕ → _). row b c) (changed_else map i (changed_pair (map i) j k entry) a n))

-- what holds of the new entry and of all old ones

pub each_changed : {A : Type 0} (P : A → Type 0) (map : ℕ → A) (i : ℕ) (entry : A) → P entry → ((a : ℕ) → P (map a)) → (a : ℕ) → P (changed map i entry a)
each_changed P map i entry new old a = dite (ℕ_discrete a i)
    (λ (e : a ≡ i). subst P (sym (changed_here map i entry a e)) new)
    (λ (n : a ≢ i). subst P (sym (changed_else map i entry a n)) (old a))

pub each_pair : {A : Type 0} (P : A → Type 0) (map : ℕ → ℕ → A) (i j : ℕ) (entry : A) → P entry → ((a b : ℕ) → P (map a b)) → (a b : ℕ) → P (changed_pair map i j entry a b)
each_pair P map i j entry new old a b = each_changed (λ (row : ℕ → _). P (row b)) map i (changed (map i) j entry) (each_changed P (map i) j entry new (old i) b) (λ x. old x b) a

pub each_triple : {A : Type 0} (P : A → Type 0) (map : ℕ → ℕ → ℕ → A) (i j k : ℕ) (entry : A) → P entry → ((a b c : ℕ) → P (map a b c)) → (a b c : ℕ) → P (changed_triple map i j k entry a b c)
each_triple P map i j k entry new old a b c = each_changed (λ (row : ℕ → ℕ → _). P (row b c)) map i (changed_pair (map i) j k entry) (each_pair P (map i) j k entry new (old i) b c) (λ x. old x b c) a

-- with the numbers at which it stands
pub triple_by : {A : Type 0} (P : ℕ → ℕ → ℕ → A → Type 0) (map : ℕ → ℕ → ℕ → A) (i j k : ℕ) (entry : A) → P i j k entry → ((a b c : ℕ) → P a b c (map a b c)) → (a b c : ℕ) → P a b c (changed_triple map i j k entry a b c)
triple_by P map i j k entry new old a b c = dite (ℕ_discrete a i)
    (λ (e : a ≡ i). dite (ℕ_discrete b j)
    (λ (e' : b ≡ j). dite (ℕ_discrete c k)
    (λ (e'' : c ≡ k).
    subst (λ (x : ℕ). P x b c (changed_triple map i j k entry x b c)) (sym e)
    (subst (λ (y : ℕ). P i y c (changed_triple map i j k entry i y c)) (sym e')
    (subst (λ (z : ℕ). P i j z (changed_triple map i j k entry i j z)) (sym e'')
    (subst (P i j k) (sym (triple_here map i j k entry)) new))))
    (λ (n : c ≢ k). subst (P a b c) (sym (triple_else map i j k entry a b c (λ _ _ s. n s))) (old a b c)))
    (λ (n : b ≢ j). subst (P a b c) (sym (triple_else map i j k entry a b c (λ _ s _. n s))) (old a b c)))
    (λ (n : a ≢ i). subst (P a b c) (sym (triple_else map i j k entry a b c (λ s _ _. n s))) (old a b c))
