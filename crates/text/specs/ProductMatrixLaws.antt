-- Sums over basis states: over all of them, over the settings of some qubits, and the product of matrices as such sums.
use Rattle.std.specs.Prelude.{◌≡◌, refl, Bool, true, false, cond, ◌&&◌, ◌||◌, List, [], ℕ, zero, suc, ◌+◌, ◌^◌, ◌≤◌}
use Rattle.std.specs.Prelude.{◌<◌}
use Rattle.std.proofs.Common.{◌∙◌, ap, sym, ap₂, add-zero, add-suc, arith}
use Rattle.std.proofs.Math.Path.{fun_ext}
use Rattle.std.proofs.Math.Decide.{ℕ_discrete}
use Rattle.diagram.specs.Weights.{Weight, 0w, times_w, plus_w}
use Rattle.diagram.specs.WeightsLaws.{times_w_comm, times_w_zero, plus_w_comm, plus_w_zero}
use Rattle.diagram.specs.Weights.{1w}
use Rattle.diagram.specs.WeightsLaws.{plus_w_assoc, times_w_plus, times_w_assoc, times_w_one}
use Rattle.diagram.specs.Tensor.{bits, Bits, assign}
use Rattle.diagram.specs.TensorBitsLaws.{assign_other, assign_at, assign_same}
use Rattle.diagram.specs.SumOver.{settings}
use Rattle.diagram.specs.Tabulate.{Sees}
use Rattle.diagram.specs.TabulateLaws.{bits_none}
use Rattle.diagram.specs.TensorLaws.{power_suc}
use Rattle.diagram.specs.Gate.{equal}
use Rattle.text.specs.Product.{sum_below, BasisState, Operator, sum_states, product, has_qubit, others, identity}
use Rattle.text.specs.QubitsLaws.{bit_added, bit_other}

-- weights

times_zero : (a : Weight) → times_w a 0w ≡ 0w
times_zero a = times_w_comm a 0w ∙ times_w_zero a

plus_zero : (a : Weight) → plus_w a 0w ≡ a
plus_zero a = plus_w_comm a 0w ∙ plus_w_zero a

plus_medial : (a b c d : Weight) → plus_w (plus_w a b) (plus_w c d) ≡ plus_w (plus_w a c) (plus_w b d)
plus_medial a b c d =
    plus_w_assoc a b (plus_w c d)
    ∙ ap (plus_w a) (sym (plus_w_assoc b c d) ∙ ap (λ x. plus_w x d) (plus_w_comm b c) ∙ plus_w_assoc c b d)
    ∙ sym (plus_w_assoc a c (plus_w b d))

pub cond_times : (b : Bool) (x y : Weight) → times_w (cond b x 0w) y ≡ cond b (times_w x y) 0w
cond_times true x y = refl
cond_times false x y = times_w_zero y

-- sums below a number

sum_same : (k : ℕ) {f g : ℕ → Weight} → ((v : ℕ) → f v ≡ g v) → sum_below k f ≡ sum_below k g
sum_same k e = ap (sum_below k) (fun_ext e)

sum_append : (k l : ℕ) (f : ℕ → Weight) → sum_below (k + l) f ≡ plus_w (sum_below k f) (sum_below l (λ v. f (k + v)))
unfolding sum_below
sum_append k zero f = rw (add-zero k) (sym (plus_zero (sum_below k f)))
sum_append k (suc l) f =
    rw (add-suc k l, sum_append k l f) (plus_w_assoc (sum_below k f) (sum_below l (λ v. f (k + v))) (f (k + l)))

sum_zero : (k : ℕ) → sum_below k (λ v. 0w) ≡ 0w
unfolding sum_below
sum_zero zero = refl
sum_zero (suc k) = rw (sum_zero k) (plus_w_zero 0w)

sum_plus : (k : ℕ) (f g : ℕ → Weight) → sum_below k (λ v. plus_w (f v) (g v)) ≡ plus_w (sum_below k f) (sum_below k g)
unfolding sum_below
sum_plus zero f g = sym (plus_w_zero 0w)
sum_plus (suc k) f g = rw (sum_plus k f g) (plus_medial (sum_below k f) (sum_below k g) (f k) (g k))

sum_times : (k : ℕ) (a : Weight) (f : ℕ → Weight) → sum_below k (λ v. times_w a (f v)) ≡ times_w a (sum_below k f)
unfolding sum_below
sum_times zero a f = sym (times_zero a)
sum_times (suc k) a f = rw (sum_times k a f) (sym (times_w_plus a (sum_below k f) (f k)))

sum_swap : (k l : ℕ) (f : ℕ → ℕ → Weight)
    → sum_below k (λ v. sum_below l (f v)) ≡ sum_below l (λ w. sum_below k (λ v. f v w))
unfolding sum_below
sum_swap zero l f = sym (sum_zero l)
sum_swap (suc k) l f = rw (sum_swap k l f) (sym (sum_plus l (λ w. sum_below k (λ v. f v w)) (f k)))

-- the product is associative
pub product_assoc : (n : ℕ) (A B C : Operator) (o i : BasisState)
    → product n (product n A B) C o i ≡ product n A (product n B C) o i
unfolding product sum_states
product_assoc n A B C o i =
    sum_same (2 ^ n) (λ v. times_w_comm (sum_below (2 ^ n) (λ w. times_w (A o (bits w)) (B (bits w) (bits v))))
    (C (bits v) i)
    ∙ sym (sum_times (2 ^ n) (C (bits v) i) (λ w. times_w (A o (bits w)) (B (bits w) (bits v)))))
    ∙ sum_swap (2 ^ n) (2 ^ n) (λ v w. times_w (C (bits v) i) (times_w (A o (bits w)) (B (bits w) (bits v))))
    ∙ sum_same (2 ^ n) (λ w.
    sum_same (2 ^ n) (λ v. times_w_comm (C (bits v) i) (times_w (A o (bits w)) (B (bits w) (bits v)))
    ∙ times_w_assoc (A o (bits w)) (B (bits w) (bits v)) (C (bits v) i))
    ∙ sum_times (2 ^ n) (A o (bits w)) (λ v. times_w (B (bits w) (bits v)) (C (bits v) i)))

-- sums over the settings of a set

settings_agree : (n : ℕ) (S : Bits) (g h : Bits → Weight) (f : Bits)
    → ((m : Bits) → ((k : ℕ) → n ≤ k → m k ≡ f k) → g m ≡ h m) → settings n S g f ≡ settings n S h f
unfolding settings
settings_agree zero S g h f e = e f (λ k p. refl)
settings_agree (suc n) S g h f e =
    go (S n) (λ f' q. settings_agree n S g h f' (λ m a. e m (λ k p. a k (omega arith) ∙ q k p)))
  where
    go : (b : Bool) → ((f' : Bits) → ((k : ℕ) → suc n ≤ k → f' k ≡ f k) → settings n S g f' ≡ settings n S h f')
        → cond b (plus_w (settings n S g (assign n false f)) (settings n S g (assign n true f))) (settings n S g f)
        ≡ cond b (plus_w (settings n S h (assign n false f)) (settings n S h (assign n true f))) (settings n S h f)
    go false ih = ih f (λ k p. refl)
    go true ih =
        ap₂ plus_w (ih (assign n false f) (λ k p. assign_other k n false f (λ q. omega arith)))
        (ih (assign n true f) (λ k p. assign_other k n true f (λ q. omega arith)))

abbrev all : Bits
all k = true

settings_zero : (n : ℕ) (f : Bits) → settings n all (λ m. 0w) f ≡ 0w
unfolding settings
settings_zero zero f = refl
settings_zero (suc n) f = rw (settings_zero n (assign n false f), settings_zero n (assign n true f)) (plus_w_zero 0w)

settings_none : (n : ℕ) (S : Bits) (h : Bits → Weight) (f : Bits) → ((k : ℕ) → S k ≡ false) → settings n S h f ≡ h f
unfolding settings
settings_none zero S h f e = refl
settings_none (suc n) S h f e = rw (e n) (settings_none n S h f e)

pub settings_beyond : (n d : ℕ) (S : Bits) (h : Bits → Weight) (f : Bits) → n ≤ d → ((k : ℕ) → n ≤ k → S k ≡ false)
    → settings d S h f ≡ settings n S h f
unfolding settings
settings_beyond n zero S h f p e = let z : n ≡ 0 = omega arith in rw z
settings_beyond n (suc d) S h f p e =
    elim (ℕ_discrete n (suc d)) [
      | yes z ↦ rw z
      | no z ↦ rw (e d (omega arith)) (settings_beyond n d S h f (omega arith) e)
    ]

-- where every index below n is set, what stood there does not count
settings_base : (n top : ℕ) (h : Bits → Weight) → Sees top h → (x y : Bits) → ((k : ℕ) → n ≤ k → k < top → x k ≡ y k)
    → settings n all h x ≡ settings n all h y
unfolding settings
settings_base zero top h s x y e = s x y (λ k p. e k (omega arith) p)
settings_base (suc n) top h s x y e =
    ap₂ plus_w (settings_base n top h s (assign n false x) (assign n false y) (both false))
    (settings_base n top h s (assign n true x) (assign n true y) (both true))
  where
    both : (b : Bool) (k : ℕ) → n ≤ k → k < top → assign n b x k ≡ assign n b y k
    both b k p q =
        elim (ℕ_discrete k n) [
          | yes z ↦ rw z (assign_at n b x ∙ sym (assign_at n b y))
          | no z ↦ assign_other k n b x z ∙ e k (omega arith) q ∙ sym (assign_other k n b y z)
        ]

-- the sum over the numbers below 2^n sets every index below n
set_bit : (n w : ℕ) → bits w n ≡ false → assign n true (bits w) ≡ bits (2 ^ n + w)
set_bit n w e = fun_ext (λ k. elim (ℕ_discrete k n) [
  | yes z ↦ rw z (assign_at n true (bits w) ∙ sym (bit_added n w e))
  | no z ↦ assign_other k n true (bits w) z ∙ sym (bit_other n k w z e)
])

settings_numbers : (n w : ℕ) (h : Bits → Weight) → ((k : ℕ) → k < n → bits w k ≡ false)
    → settings n all h (bits w) ≡ sum_below (2 ^ n) (λ v. h (bits (w + v)))
unfolding settings
settings_numbers zero w h e = unfold sum_below in rw (add-zero w) (sym (plus_w_zero (h (bits w))))
settings_numbers (suc n) w h e =
    let z = e n (omega arith) in
    ap₂ plus_w
    (ap (settings n all h) (assign_same n (bits w) false z) ∙ settings_numbers n w h (λ k p. e k (omega arith)))
    (ap (settings n all h) (set_bit n w z)
    ∙ settings_numbers n (2 ^ n + w) h (λ k p. bit_other n k w (λ q. omega arith) z ∙ e k (omega arith))
    ∙ sum_same (2 ^ n) (λ v. ap (λ x. h (bits x)) (omega arith)))
    ∙ sym (sum_append (2 ^ n) (2 ^ n) (λ v. h (bits (w + v))))
    ∙ ap (λ x. sum_below x (λ v. h (bits (w + v)))) (sym (power_suc n))

sum_states_lem : (n : ℕ) (h : BasisState → Weight) (x : BasisState) → Sees n h → sum_states n h ≡ settings n all h x
unfolding sum_states
sum_states_lem n h x s =
    sum_same (2 ^ n) (λ v. ap (λ k. h (bits k)) (omega arith))
    ∙ sym (settings_numbers n 0 h (λ k p. bits_none k))
    ∙ settings_base n n h s (bits 0) x (λ k p q. absurd (omega arith))

-- the qubits that are left as they are

pub others_sees : (n : ℕ) (qs : List ℕ) (o o' i i' : BasisState) → ((k : ℕ) → k < n → o k ≡ o' k)
    → ((k : ℕ) → k < n → i k ≡ i' k) → others n qs o i ≡ others n qs o' i'
unfolding others
others_sees zero qs o o' i i' e e' = refl
others_sees (suc n) qs o o' i i' e e' =
    ap₂ ◌&&◌ (others_sees n qs o o' i i' (λ k p. e k (omega arith)) (λ k p. e' k (omega arith)))
    (ap (λ b. has_qubit qs n || b) (ap₂ equal (e n (omega arith)) (e' n (omega arith))))

pub equal_swap : (a b : Bool) → equal a b ≡ equal b a
equal_swap true true = refl
equal_swap true false = refl
equal_swap false true = refl
equal_swap false false = refl

others_swap : (n : ℕ) (qs : List ℕ) (o i : BasisState) → others n qs o i ≡ others n qs i o
unfolding others
others_swap zero qs o i = refl
others_swap (suc n) qs o i = ap₂ ◌&&◌ (others_swap n qs o i) (ap (λ b. has_qubit qs n || b) (equal_swap (o n) (i n)))

and_yes : (a b : Bool) (x : Weight) → b ≡ true → cond (a && b) x 0w ≡ cond a x 0w
and_yes true b x e = rw e
and_yes false b x e = refl

and_no : (a b : Bool) (x : Weight) → b ≡ false → cond (a && b) x 0w ≡ 0w
and_no true b x e = rw e
and_no false b x e = refl

-- The sum over all states of what is 0 unless the other qubits are as in o: it is over the settings of the qubits
-- alone.
collapse : (n : ℕ) (qs : List ℕ) (h : BasisState → Weight) (o x : BasisState) → ((k : ℕ) → n ≤ k → x k ≡ o k)
    → settings n all (λ m. cond (others n qs o m) (h m) 0w) x ≡ settings n (has_qubit qs) h o
unfolding settings others
collapse zero qs h o x e = ap h (fun_ext (λ k. e k (omega arith)))
collapse (suc n) qs h o x e = go (has_qubit qs n) refl (o n) refl (λ o x e. collapse n qs h o x e)
  where
    whole : BasisState → Weight
    whole m = cond (others n qs o m && (has_qubit qs n || equal (o n) (m n))) (h m) 0w

    rest : BasisState → BasisState → Weight
    rest o m = cond (others n qs o m) (h m) 0w

    value_at : (b : Bool) (m : BasisState) → ((k : ℕ) → n ≤ k → m k ≡ assign n b x k) → m n ≡ b
    value_at b m a = a n (omega arith) ∙ assign_at n b x

    kept : (b : Bool) → (has_qubit qs n || equal (o n) b) ≡ true
        → settings n all whole (assign n b x) ≡ settings n all (rest o) (assign n b x)
    kept b t =
        settings_agree n all whole (rest o) (assign n b x)
        (λ m a. and_yes (others n qs o m) _ (h m) (ap (λ c. has_qubit qs n || equal (o n) c) (value_at b m a) ∙ t))

    gone : (b : Bool) → (has_qubit qs n || equal (o n) b) ≡ false → settings n all whole (assign n b x) ≡ 0w
    gone b t =
        settings_agree n all whole (λ m. 0w) (assign n b x)
        (λ m a. and_no (others n qs o m) _ (h m) (ap (λ c. has_qubit qs n || equal (o n) c) (value_at b m a) ∙ t))
        ∙ settings_zero n (assign n b x)

    above : (b : Bool) (k : ℕ) → n ≤ k → assign n b x k ≡ assign n b o k
    above b k p =
        elim (ℕ_discrete k n) [
          | yes z ↦ rw z (assign_at n b x ∙ sym (assign_at n b o))
          | no z ↦ assign_other k n b x z ∙ e k (omega arith) ∙ sym (assign_other k n b o z)
        ]

    Step : Type 0
    Step = (o x : BasisState) → ((k : ℕ) → n ≤ k → x k ≡ o k)
        → settings n all (rest o) x ≡ settings n (has_qubit qs) h o

    each : (b : Bool) → has_qubit qs n ≡ true → Step
        → settings n all whole (assign n b x) ≡ settings n (has_qubit qs) h (assign n b o)
    each b t ih =
        kept b (rw t)
        ∙ settings_agree n all (rest o) (rest (assign n b o)) (assign n b x)
        (λ m a. ap (λ c. cond c (h m) 0w) (others_sees n qs o (assign n b o) m m
        (λ k p. sym (assign_other k n b o (λ z. omega arith))) (λ k p. refl)))
        ∙ ih (assign n b o) (assign n b x) (above b)

    same : (b : Bool) → has_qubit qs n ≡ false → o n ≡ b → Step
        → settings n all whole (assign n b x) ≡ settings n (has_qubit qs) h o
    same b t u ih =
        kept b (rw (t, u) (both b)) ∙ ih o (assign n b x) (λ k p. above b k p ∙ ap (λ s. s k) (assign_same n o b u))
      where
        both : (b : Bool) → equal b b ≡ true
        both true = refl
        both false = refl

    go : (c : Bool) → has_qubit qs n ≡ c → (b : Bool) → o n ≡ b → Step
        → plus_w (settings n all whole (assign n false x)) (settings n all whole (assign n true x))
        ≡ cond c (plus_w (settings n (has_qubit qs) h (assign n false o))
        (settings n (has_qubit qs) h (assign n true o)))
        (settings n (has_qubit qs) h o)
    go true t b u ih = ap₂ plus_w (each false t ih) (each true t ih)
    go false t true u ih = ap₂ plus_w (gone false (rw (t, u))) (same true t u ih) ∙ plus_w_zero _
    go false t false u ih = ap₂ plus_w (same false t u ih) (gone true (rw (t, u))) ∙ plus_zero _

pub states_same : (n : ℕ) {f g : BasisState → Weight} → ((m : BasisState) → f m ≡ g m) → sum_states n f ≡ sum_states n g
states_same n e = ap (sum_states n) (fun_ext e)

pub sum_collapse : (n : ℕ) (qs : List ℕ) (h : BasisState → Weight) (o : BasisState) → Sees n h
    → sum_states n (λ m. cond (others n qs o m) (h m) 0w) ≡ settings n (has_qubit qs) h o
sum_collapse n qs h o s =
    sum_states_lem n (λ m. cond (others n qs o m) (h m) 0w) o
    (λ a b e. ap₂ (λ c w. cond c w 0w) (others_sees n qs o o a b (λ k p. refl) e) (s a b e))
    ∙ collapse n qs h o o (λ k p. refl)

-- the identity changes nothing, on the left and on the right

on_none : (k : ℕ) → has_qubit [] k ≡ false
unfolding has_qubit
on_none k = refl

sum_identity : (n : ℕ) (h : BasisState → Weight) (o : BasisState) → Sees n h
    → sum_states n (λ m. cond (others n [] o m) (h m) 0w) ≡ h o
sum_identity n h o s = sum_collapse n [] h o s ∙ settings_none n (has_qubit []) h o on_none

pub identity_left : (n : ℕ) (M : Operator) (o i : BasisState) → Sees n (λ m. M m i)
    → product n (identity n) M o i ≡ M o i
unfolding product identity
identity_left n M o i s =
    states_same n (λ m. cond_times (others n [] o m) 1w (M m i)
    ∙ ap (λ w. cond (others n [] o m) w 0w) (times_w_one (M m i))) ∙ sum_identity n (λ m. M m i) o s

pub identity_right : (n : ℕ) (M : Operator) (o i : BasisState) → Sees n (M o) → product n M (identity n) o i ≡ M o i
unfolding product identity
identity_right n M o i s =
    states_same n (λ m.
    times_w_comm (M o m) _ ∙ cond_times (others n [] m i) 1w (M o m)
    ∙ ap₂ (λ b w. cond b w 0w) (others_swap n [] m i) (times_w_one (M o m)))
    ∙ sum_identity n (M o) i s
