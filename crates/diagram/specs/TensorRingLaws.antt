-- The sum and the product of tensors, at each assignment and with the other operations.
use Rattle.std.specs.Prelude.{◌≡◌, refl, Bool, ℕ, zero, suc}
use Rattle.std.proofs.Common.{ap, ap₂, sym, ◌∙◌}
use Rattle.field.specs.Weight.{Weight, 0w, plus_w, times_w}
use Rattle.field.specs.RingLaws.{plus_w_comm, plus_w_assoc, plus_w_zero, times_w_comm, times_w_zero, times_w_plus}
use Rattle.field.specs.RingLaws.{times_w_medial}
use Rattle.diagram.specs.Tensor.{Tensor, weight, split, Bits, tail, at, constant, scale, plus, times, fix, joined}
use Rattle.diagram.specs.TestLaws.{branch_ap₂}

pub at_plus : {d : ℕ} (A B : Tensor d) (f : Bits) → at (plus A B) f ≡ plus_w (at A f) (at B f)
unfolding at plus
at_plus (weight a) (weight b) f = refl
at_plus (split l h) (split l' h') f =
    rw (at_plus l l', at_plus h h') (sym (branch_ap₂ plus_w (f 0) (at l (tail f)) (at h (tail f)) (at l' (tail f))
    (at h' (tail f))))

pub at_times : {d : ℕ} (A B : Tensor d) (f : Bits) → at (times A B) f ≡ times_w (at A f) (at B f)
unfolding at times
at_times (weight a) (weight b) f = refl
at_times (split l h) (split l' h') f = rw (at_times l l', at_times h h') (sym (branch_ap₂ times_w (f 0) _ _ _ _))

pub plus_comm : {d : ℕ} (A B : Tensor d) → plus A B ≡ plus B A
unfolding plus
plus_comm (weight a) (weight b) = ap weight (plus_w_comm a b)
plus_comm (split l h) (split l' h') = ap₂ split (plus_comm l l') (plus_comm h h')

pub plus_assoc : {d : ℕ} (A B C : Tensor d) → plus (plus A B) C ≡ plus A (plus B C)
unfolding plus
plus_assoc (weight a) (weight b) (weight c) = ap weight (plus_w_assoc a b c)
plus_assoc (split l h) (split l' h') (split l'' h'') = ap₂ split (plus_assoc l l' l'') (plus_assoc h h' h'')

pub plus_medial : {d : ℕ} (A B C D : Tensor d) → plus (plus A B) (plus C D) ≡ plus (plus A C) (plus B D)
plus_medial A B C D =
    plus_assoc A B (plus C D) ∙ ap (plus A) (sym (plus_assoc B C D) ∙ ap (λ x. plus x D) (plus_comm B C)
    ∙ plus_assoc C B D) ∙ sym
    (plus_assoc A C (plus B D))

pub zero_plus : {d : ℕ} (A : Tensor d) → plus (constant d 0w) A ≡ A
unfolding plus constant
zero_plus (weight a) = ap weight (plus_w_zero a)
zero_plus (split l h) = ap₂ split (zero_plus l) (zero_plus h)

pub plus_zero : {d : ℕ} (A : Tensor d) → plus A (constant d 0w) ≡ A
plus_zero {d} A = plus_comm A (constant d 0w) ∙ zero_plus A

pub times_comm : {d : ℕ} (A B : Tensor d) → times A B ≡ times B A
unfolding times
times_comm (weight a) (weight b) = ap weight (times_w_comm a b)
times_comm (split l h) (split l' h') = ap₂ split (times_comm l l') (times_comm h h')

pub zero_times : {d : ℕ} (A : Tensor d) → times (constant d 0w) A ≡ constant d 0w
unfolding times constant
zero_times (weight a) = ap weight (times_w_zero a)
zero_times (split l h) = ap₂ split (zero_times l) (zero_times h)

pub times_zero : {d : ℕ} (A : Tensor d) → times A (constant d 0w) ≡ constant d 0w
times_zero {d} A = times_comm A (constant d 0w) ∙ zero_times A

pub plus_constant : (d : ℕ) (v w : Weight) → plus (constant d v) (constant d w) ≡ constant d (plus_w v w)
unfolding plus constant
plus_constant zero v w = refl
plus_constant (suc d) v w = ap₂ split (plus_constant d v w) (plus_constant d v w)

pub times_constant : (d : ℕ) (v w : Weight) → times (constant d v) (constant d w) ≡ constant d (times_w v w)
unfolding times constant
times_constant zero v w = refl
times_constant (suc d) v w = ap₂ split (times_constant d v w) (times_constant d v w)

pub scale_plus : {d : ℕ} (c : Weight) (A B : Tensor d) → scale c (plus A B) ≡ plus (scale c A) (scale c B)
unfolding scale plus
scale_plus c (weight a) (weight b) = ap weight (times_w_plus c a b)
scale_plus c (split l h) (split l' h') = ap₂ split (scale_plus c l l') (scale_plus c h h')

pub scale_times : {d : ℕ} (a b : Weight) (A B : Tensor d)
    → times (scale a A) (scale b B) ≡ scale (times_w a b) (times A B)
unfolding scale times
scale_times a b (weight v) (weight w) = ap weight (times_w_medial a v b w)
scale_times a b (split l h) (split l' h') = ap₂ split (scale_times a b l l') (scale_times a b h h')

pub fix_plus : {d : ℕ} (k : ℕ) (b : Bool) (A B : Tensor d) → fix k b (plus A B) ≡ plus (fix k b A) (fix k b B)
unfolding fix plus
fix_plus k b (weight v) (weight w) = refl
fix_plus zero b (split l h) (split l' h') = let e = sym (branch_ap₂ plus b l h l' h') in ap₂ split e e
fix_plus (suc k) b (split l h) (split l' h') = ap₂ split (fix_plus k b l l') (fix_plus k b h h')

pub fix_times : {d : ℕ} (k : ℕ) (b : Bool) (A B : Tensor d) → fix k b (times A B) ≡ times (fix k b A) (fix k b B)
unfolding fix times
fix_times k b (weight v) (weight w) = refl
fix_times zero b (split l h) (split l' h') = let e = sym (branch_ap₂ times b l h l' h') in ap₂ split e e
fix_times (suc k) b (split l h) (split l' h') = ap₂ split (fix_times k b l l') (fix_times k b h h')

pub joined_plus : {d : ℕ} (k : ℕ) (A B C D : Tensor d)
    → joined k (plus A B) (plus C D) ≡ plus (joined k A C) (joined k B D)
unfolding joined plus
joined_plus k (weight a) (weight b) (weight c) (weight e) = refl
joined_plus zero (split a b) (split c d) (split e f) (split g h) = refl
joined_plus (suc k) (split a b) (split c d) (split e f) (split g h) =
    ap₂ split (joined_plus k a c e g) (joined_plus k b d f h)
