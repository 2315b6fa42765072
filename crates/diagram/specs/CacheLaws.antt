-- Laws of the operation cache: epochs, what is remembered as nodes are added, an entry written, an entry found.
use Rattle.std.specs.Prelude.{◌≡◌, refl, ◌⊎◌, ◌≢◌, List, ℕ, ◌+◌, ◌*◌}
use Rattle.std.specs.Prelude.{◌≤◌, ◌/◌, ◌%◌, ◌<◌, length, get_or, set, Option, Some}
use Rattle.std.proofs.Common.{ap, sym, subst, ◌∙◌, inl, inr, arith}
use Rattle.std.proofs.Math.Decide.{ℕ_discrete}
use Rattle.std.proofs.Math.ListN.{length-set}
use Rattle.std.proofs.Math.Seq.{get_or-set_same, get_or-set_other}
use Rattle.diagram.specs.Sets.{PrefixOf}
use Rattle.diagram.specs.TallyStepLaws.{writes_stable}
use Rattle.diagram.specs.MeaningLaws.{valid_more, at_kept}
use Rattle.diagram.specs.Store.{nodes_of, set_of, tensor_of}
use Rattle.diagram.specs.StoreLaws.{set_length, sets_prefix, tensor_kept}
use Rattle.diagram.specs.Cache.{SameEntry, AllEarlier, AllZero, Remembers, LookupEnsures, NoneLater}
use Rattle.diagram.specs.Cache.{RememberEnsures, key_step, HasEntry, StableEntry, code_of, pack, KeyFits, EdgeFits}
use Rattle.diagram.specs.Cache.{with_entry}
use Rattle.diagram.specs.NodeLaws.{edge_eq}
use Rattle.diagram.specs.declared.node.Edge.{Edge}
use Rattle.diagram.specs.declared.make.State.{State}
use Rattle.diagram.specs.declared.cache.Key.{Key}
use Rattle.diagram.specs.declared.cache.Op.{Op}
use Rattle.diagram.specs.declared.cache.Op.TheVariants.{Sum, Contract, Lows}

pub lookup_is : {c : List ℕ} {epoch : ℕ} {k : Key} {e : Edge} (f : Option Edge) → LookupEnsures c epoch k f → f ≡ Some e
    → HasEntry c epoch k e
lookup_is {c} {epoch} {k} f l e = subst (LookupEnsures c epoch k) e l

pub all_zero_earlier : {c : List ℕ} → AllZero c → AllEarlier c 1
all_zero_earlier b = record { is = λ i. omega (arith, b.is (4 * i + 2)) }

pub none_later_earlier : {c : List ℕ} {epoch : ℕ} → NoneLater c epoch → AllEarlier c (epoch + 1)
none_later_earlier p = record { is = λ i. omega (arith, p.is i) }

pub remembers_nothing : {c : List ℕ} (s : List ℕ) (st : State) → AllEarlier c st.epoch → Remembers c s st
remembers_nothing s st p = record {
  past = record { is = λ i. omega (arith, p.is i) };
  entries = λ k e h. absurd (omega (arith, p.is h.slot, h.when));
}

-- a stable entry is written
pub remembers_kept : {c c' s : List ℕ} {st : State} {k : Key} {e : Edge} → Remembers c s st → StableEntry s st k e
    → RememberEnsures c c' st.epoch k e → Remembers c' s st
remembers_kept {c} {c'} {s} {st} {k} {e} m n w = record {
  past = record { is = λ i. elim (w.epochs i) [ inl q ↦ omega (arith, m.past.is i) | inr q ↦ omega arith ] };
  entries = λ k' e' h. entry k' e' (w.entries st.epoch k' e' h);
}
  where
    entry : (k' : Key) (e' : Edge) → HasEntry c st.epoch k' e' ⊎ SameEntry st.epoch k e st.epoch k' e'
        → StableEntry s st k' e'
    entry k' e' (inl h) = m.entries k' e' h
    entry k' e' (inr h) = rw (h.key, h.result) n

-- what is remembered stays right while nodes are put in
module _ (s s' : List ℕ) (st st' : State) (g : PrefixOf (nodes_of s st) (nodes_of s' st')) where
  -- nodes keep their tensors, and so a key its step
  pub key_step_kept : (k : Key) → k.left ≤ st.count → k.right ≤ st.count → key_step s' st' k ≡ key_step s st k
  unfolding key_step
  key_step_kept k p q =
      let t = sets_prefix s s' st st' g in
      rw (at_kept k.left (omega (arith, set_length s st)) t, at_kept k.right (omega (arith, set_length s st)) t)

  entry_grown : (k : Key) (e : Edge) → st.count ≤ st'.count → StableEntry s st k e → StableEntry s' st' k e
  entry_grown k e l n =
      let same = key_step_kept k n.left n.right in
      let w = n.known in
      let answer : tensor_of s st e ≡ w.0 = ap (λ p. p.0) (sym n.is ∙ w.1.is (set_of s st)) in
      let again = writes_stable w.1 (set_of s st) (set_of s' st') (sets_prefix s s' st st' g) (ap (λ p. p.1) n.is)
      in
      record {
        left = omega (arith, n.left);
        right = omega (arith, n.right);
        valid = valid_more _ l n.valid;
        known = rw same w;
        is = rw (same, tensor_kept s s' st st' g n.valid) (again ∙ ap (λ T. (T, set_of s' st')) (sym answer));
      }

  pub remembers_more : {c : List ℕ} → st'.epoch ≡ st.epoch → st.count ≤ st'.count → Remembers c s st
      → Remembers c s' st'
  remembers_more e l m =
      record { past = rw e m.past; entries = λ k f h. entry_grown k f l (m.entries k f (rw e at h)) }

key_eq : {k k' : Key} → k.op ≡ k'.op → k.left ≡ k'.left → k.right ≡ k'.right → k.arg ≡ k'.arg → k ≡ k'
key_eq p q r u = λ i. record { op = p i; left = q i; right = r i; arg = u i }

code_eq : (a b : Op) → code_of a ≡ code_of b → a ≡ b
code_eq Sum Sum e = refl
code_eq Contract Contract e = refl
code_eq Lows Lows e = refl
code_eq Sum Contract e = absurd (omega arith)
code_eq Sum Lows e = absurd (omega arith)
code_eq Contract Sum e = absurd (omega arith)
code_eq Contract Lows e = absurd (omega arith)
code_eq Lows Sum e = absurd (omega arith)
code_eq Lows Contract e = absurd (omega arith)

module _ (c : List ℕ) (i k r t v : ℕ) (h : 4 * i + 4 ≤ length c) where
  entered_length : length (with_entry c i k r t v) ≡ length c
  unfolding with_entry
  entered_length = simp length-set

  -- word n of entry i
  abbrev word : ℕ → ℕ
  word n = get_or (with_entry c i k r t v) (4 * i + n) 0

  abbrev c₁ : List ℕ
  c₁ = set c (4 * i) k

  abbrev c₂ : List ℕ
  c₂ = set c₁ (4 * i + 1) r

  abbrev c₃ : List ℕ
  c₃ = set c₂ (4 * i + 2) t

  entered_0 : get_or (with_entry c i k r t v) (4 * i) 0 ≡ k
  unfolding with_entry
  entered_0 =
      get_or-set_other c₃ _ _ _ 0 (omega arith) ∙ get_or-set_other c₂ _ _ _ 0 (omega arith)
      ∙ get_or-set_other c₁ _ _ _ 0 (omega arith)
      ∙ get_or-set_same c _ _ 0 (omega arith)

  entered_1 : word 1 ≡ r
  unfolding with_entry
  entered_1 = get_or-set_other c₃ _ _ _ 0 (omega arith) ∙ get_or-set_other c₂ _ _ _ 0 (omega arith)
      ∙ get_or-set_same c₁ _ _ 0 (simp length-set (omega arith))

  entered_2 : word 2 ≡ t
  unfolding with_entry
  entered_2 = get_or-set_other c₃ _ _ _ 0 (omega arith) ∙ get_or-set_same c₂ _ _ 0 (simp length-set (omega arith))

  entered_3 : word 3 ≡ v
  unfolding with_entry
  entered_3 = get_or-set_same c₃ _ _ 0 (simp length-set (omega arith))

  entered_other : (j m : ℕ) → j ≢ i → m < 4 → get_or (with_entry c i k r t v) (4 * j + m) 0 ≡ get_or c (4 * j + m) 0
  unfolding with_entry
  entered_other j m n p =
      get_or-set_other c₃ _ _ _ 0 (omega arith) ∙ get_or-set_other c₂ _ _ _ 0 (omega arith)
      ∙ get_or-set_other c₁ _ _ _ 0 (omega arith)
      ∙ get_or-set_other c _ _ _ 0 (omega arith)

module _ (c : List ℕ) (i epoch : ℕ) (k : Key) (e : Edge) (inside : 4 * i + 4 ≤ length c) (n : KeyFits k)
    (f : EdgeFits e) where
  abbrev result : ℕ
  result = e.weight * 65536 + e.node

  abbrev c' : List ℕ
  c' = with_entry c i (pack k) k.arg epoch result

  other : (j m : ℕ) → j ≢ i → m < 4 → get_or c' (4 * j + m) 0 ≡ get_or c (4 * j + m) 0
  other = entered_other c i (pack k) k.arg epoch result inside

  time : (j : ℕ) → Dec (j ≡ i) → (get_or c' (4 * j + 2) 0 ≡ get_or c (4 * j + 2) 0) ⊎ (get_or c' (4 * j + 2) 0 ≡ epoch)
  time j (yes q) = inr (rw q (entered_2 c i (pack k) k.arg epoch result inside))
  time j (no q) = inl (other j 2 q (omega arith))

  entry : (epoch' : ℕ) (k' : Key) (e' : Edge) (w : HasEntry c' epoch' k' e') → Dec (w.slot ≡ i)
      → HasEntry c epoch' k' e' ⊎ SameEntry epoch k e epoch' k' e'
  entry epoch' k' e' w (no q) =
      let first : 4 * w.slot + 0 ≡ 4 * w.slot = omega arith in
      inl record {
        slot = w.slot;
        inside = omega (arith, w.inside, entered_length c i (pack k) k.arg epoch result inside);
        left = w.left;
        right = w.right;
        node = w.node;
        key = sym (rw first at (other w.slot 0 q (omega arith))) ∙ w.key;
        arg = sym (other w.slot 1 q (omega arith)) ∙ w.arg;
        when = sym (other w.slot 2 q (omega arith)) ∙ w.when;
        result = sym (other w.slot 3 q (omega arith)) ∙ w.result;
      }
  entry epoch' k' e' w (yes q) =
      let word : pack k' ≡ pack k = sym w.key ∙ ap (λ j. get_or c' (4 * j) 0) q
      ∙ entered_0 c i (pack k) k.arg epoch result inside in
      let arg : k'.arg ≡ k.arg = sym w.arg ∙ ap (λ j. get_or c' (4 * j + 1) 0) q
      ∙ entered_1 c i (pack k) k.arg epoch result inside in
      let when : epoch' ≡ epoch = sym w.when ∙ ap (λ j. get_or c' (4 * j + 2) 0) q
      ∙ entered_2 c i (pack k) k.arg epoch result inside in
      let same : e'.weight * 65536 + e'.node ≡ result = sym w.result ∙ ap (λ j. get_or c' (4 * j + 3) 0) q
      ∙ entered_3 c i (pack k) k.arg epoch result inside in
      let code : code_of k'.op ≡ code_of k.op = omega (arith, word, w.left, w.right, n.left, n.right) in
      inr record {
        when = when;
        key = key_eq (code_eq k'.op k.op code) (omega (arith, word, w.left, w.right, n.left, n.right))
            (omega (arith, word, w.left, w.right, n.left, n.right)) arg;
        result = edge_eq (omega (arith, same, w.node, f.node)) (omega (arith, same, w.node, f.node));
      }

  kept_entered : RememberEnsures c c' epoch k e
  kept_entered = record {
    entries = λ epoch' k' e' w. entry epoch' k' e' w (ℕ_discrete w.slot i);
    epochs = λ j. time j (ℕ_discrete j i);
  }

-- as the code comes to them

pub remember_none : (c : List ℕ) (epoch : ℕ) (k : Key) (e : Edge) → RememberEnsures c c epoch k e
remember_none c epoch k e = record { entries = λ epoch' k' e' h. inl h; epochs = λ i. inl refl }

pub remember_written : (c : List ℕ) (i w epoch : ℕ) (k : Key) (e : Edge) → 4 * i + 4 ≤ length c → KeyFits k
    → EdgeFits e → w ≡ pack k
    → RememberEnsures c (set (set (set (set c (4 * i) w) (4 * i + 1) k.arg) (4 * i + 2) epoch) (4 * i + 3)
    (e.weight * 65536 + e.node)) epoch k e
unfolding with_entry
remember_written c i w epoch k e h q f u = rw u (kept_entered c i epoch k e h q f)

pub entry_found : (c : List ℕ) (i w epoch : ℕ) (k : Key) → 4 * i + 4 ≤ length c → KeyFits k → w ≡ pack k
    → get_or c (4 * i) 0 ≡ w → get_or c (4 * i + 1) 0 ≡ k.arg → get_or c (4 * i + 2) 0 ≡ epoch
    → HasEntry c epoch k (record { weight = get_or c (4 * i + 3) 0 / 65536; node = get_or c (4 * i + 3) 0 % 65536 })
entry_found c i w epoch k h q u p p' p'' = record {
  slot = i;
  inside = h;
  left = q.left;
  right = q.right;
  node = omega arith;
  key = p ∙ u;
  arg = p';
  when = p'';
  result = omega arith;
}
