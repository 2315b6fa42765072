-- Laws of fields: what a field is after a field was set.
use Rattle.std.specs.Prelude.{◌≡◌, ◌≢◌, List, ℕ, ◌+◌, ◌*◌, ◌/◌, ◌%◌, ◌≤◌, ◌<◌, length, get_or, set}
use Rattle.std.proofs.Common.{ap, ap₂, ◌∙◌, arith, length-set, get_or-set_same, get_or-set_other}
use Rattle.std.specs.Int.{to_le_bytes, w16}
use Rattle.std.proofs.Math.Path.{fun_ext}
use Rattle.std.proofs.Math.Decide.{ℕ_discrete}
use Rattle.diagram.specs.Fields.{field, put_field, FieldWithin, Cleared}

-- the two bytes of a number, put one after the other
pub put_bytes : (s : List ℕ) (f i : ℕ) {v : ℕ} {b : List ℕ} → v < 65536 → b ≡ to_le_bytes w16 v
    → set (set s (16 * i + 2 * f) (get_or b 0 0)) (16 * i + 2 * f + 1) (get_or b 1 0) ≡ put_field s f i v
unfolding put_field
put_bytes s f i {v} p e =
    rw e (ap₂ (λ a b. set (set s (16 * i + 2 * f) a) (16 * i + 2 * f + 1) b) (omega arith) (omega arith))

pub put_field_length : (s : List ℕ) (f i v : ℕ) → length (put_field s f i v) ≡ length s
unfolding put_field
put_field_length s f i v = simp length-set

pub put_field_same : (s : List ℕ) (f i v : ℕ) → FieldWithin s f i → field (put_field s f i v) f i ≡ v
unfolding field put_field
put_field_same s f i v h =
    let k : ℕ = 16 * i + 2 * f in
    ap₂ (λ (a b : ℕ). a + 256 * b)
    (get_or-set_other (set s k (v % 256)) (k + 1) k (v / 256) 0 (omega arith)
    ∙ get_or-set_same s k (v % 256) 0 (omega arith))
    (get_or-set_same (set s k (v % 256)) (k + 1) (v / 256) 0 (simp length-set (omega arith)))
    ∙ omega arith

-- bytes j and j + 1, neither of them one of the two that `put_field` changes
apart : (s : List ℕ) (k v j : ℕ) → j ≢ k → j ≢ k + 1 → j + 1 ≢ k
    → get_or (set (set s k (v % 256)) (k + 1) (v / 256)) j 0 + 256 * get_or (set (set s k (v % 256)) (k + 1) (v / 256))
    (j + 1) 0
    ≡ get_or s j 0 + 256 * get_or s (j + 1) 0
apart s k v j p q r =
    ap₂ (λ (a b : ℕ). a + 256 * b)
    (get_or-set_other (set s k (v % 256)) (k + 1) j (v / 256) 0 q ∙ get_or-set_other s k j (v % 256) 0 p)
    (get_or-set_other (set s k (v % 256)) (k + 1) (j + 1) (v / 256) 0 (omega arith)
    ∙ get_or-set_other s k (j + 1) (v % 256) 0 r)

pub put_field_other : (s : List ℕ) (f i v g j : ℕ) → f < 8 → g < 8 → j ≢ i → field (put_field s f i v) g j ≡ field s g j
unfolding field put_field
put_field_other s f i v g j hf hg ne =
    apart s (16 * i + 2 * f) v (16 * j + 2 * g) (omega arith) (omega arith) (omega arith)

pub put_field_beside : (s : List ℕ) (f i v g : ℕ) → f < 8 → g < 8 → g ≢ f → field (put_field s f i v) g ≡ field s g
unfolding field put_field
put_field_beside s f i v g hf hg ne =
    fun_ext (λ j. elim (ℕ_discrete j i) [
      | yes e ↦ apart s (16 * i + 2 * f) v (16 * j + 2 * g) (omega arith) (omega arith) (omega arith)
      | no d ↦ put_field_other s f i v g j hf hg d
    ])

-- a field of records set to 0, one after the other

pub cleared_more : {s s' s₁ : List ℕ} {f i n : ℕ} → f < 8 → i < n → 16 * n ≤ length s → Cleared s s' f i
    → s₁ ≡ put_field s' f i 0 → Cleared s s₁ f (i + 1)
cleared_more {s' = s'} {f = f} {i = i} p l h c q = rw q
    record {
      long = put_field_length s' f i 0 ∙ c.long;
      others = λ g b d. put_field_beside s' f i 0 g p b d ∙ c.others g b d;
      none = λ j b. elim (ℕ_discrete j i) [
        | yes e ↦ ap (field _ f) e ∙ put_field_same s' f i 0 (omega (arith, c.long))
        | no d ↦ put_field_other s' f i 0 f j p p d ∙ c.none j (omega arith)
      ];
      after = λ j b. put_field_other s' f i 0 f j p p (λ e. absurd (omega (arith, e))) ∙ c.after j (omega arith);
    }
