-- Laws of Squeeze: byte by byte.
use Rattle.std.specs.Prelude.{refl, ◌≡◌, ◌∷◌, ◌++◌, [], ◌≢◌, ℕ, ◌+◌, ◌<◌, ◌≤◌, take, length, set}
use Rattle.std.proofs.Common.{◌∙◌, append-nil, append_assoc, arith, add-one, length-set, take-suc-set, get_or-set_other}
use Rattle.text.specs.Text.{Bytes}
use Rattle.text.specs.Limits.{line_room}
use Rattle.text.specs.Squeeze.{squeezed_from, squeezed, SqueezeFits, NoneEnsures, SqueezeInvariant, PushEnsures}
use Rattle.text.specs.SqueezeReadLaws.{from_tab, from_last, from_byte, from_full}
use Rattle.text.specs.declared.squeeze.Squeeze.{Squeeze}

-- Squeezing.

pub none_ensures : NoneEnsures (record { length = 0; tabs = 0; width = 0 })
unfolding squeezed squeezed_from
none_ensures = record { fits = fits; start = λ line. record { fits = fits; kept = refl; next = λ rest. refl } }
  where
    fits : SqueezeFits (record { length = 0; tabs = 0; width = 0 })
    fits = record { tabs = omega arith; width = omega arith; short = omega arith }

-- of a byte b after s, k is kept
record PushStep (s : Squeeze) (b : ℕ) (k : Bytes) (r : Squeeze) : Type 0 where
  fits : SqueezeFits r
  next : (rest : Bytes) → squeezed_from s.tabs s.width (b ∷ rest) ≡ k ++ squeezed_from r.tabs r.width rest

invariant_push : {seen line line' k : Bytes} {s r : Squeeze} {b : ℕ} → PushStep s b k r
    → take r.length line' ≡ take s.length line ++ k
    → SqueezeInvariant seen line s → SqueezeInvariant (seen ++ (b ∷ [])) line' r
unfolding squeezed_from
invariant_push {seen} {k = k} {r = r} {b} h e q =
    let is : squeezed (seen ++ (b ∷ [])) ≡ squeezed seen ++ k = q.next (b ∷ []) ∙ rw (h.next [], append-nil k) in
    record {
      fits = h.fits;
      kept = rw (e, q.kept, is);
      next = λ rest.
          rw (
            append_assoc seen (b ∷ []) rest,
            is,
            append_assoc (squeezed seen) k (squeezed_from r.tabs r.width rest),
            ← h.next rest,
          )
          (q.next (b ∷ rest));
    }

push_kept : {line : Bytes} {s r : Squeeze} {b : ℕ} → s.length < length line → r.length ≡ s.length + 1
    → PushStep s b (b ∷ []) r
    → PushEnsures line s b (set line s.length b) r
push_kept {line} {s} {r} {b} h n e =
    record {
      fits = e.fits;
      room = length-set line s.length b;
      alone = λ i d. get_or-set_other line s.length i b 0 d;
      on = λ seen q. invariant_push e (rw (n, add-one s.length) (take-suc-set line s.length b h)) q;
    }

push_left_out : {line : Bytes} {s r : Squeeze} {b : ℕ} → r.length ≡ s.length → PushStep s b [] r
    → PushEnsures line s b line r
push_left_out {line} {s} n e =
    record {
      fits = e.fits;
      room = refl;
      alone = λ i d. refl;
      on = λ seen q. invariant_push e (rw (n, append-nil (take s.length line))) q;
    }

module _ {line : Bytes} {s : Squeeze} {b : ℕ} (n : line_room ≤ length line) (f : SqueezeFits s) where
  pub push_tab : b ≡ 9 → s.tabs < 5
      → PushEnsures line s b (set line s.length b) (record { length = s.length + 1; tabs = s.tabs + 1; width = 0 })
  push_tab e h =
      push_kept (omega arith) refl
      (record {
        fits = record { tabs = omega arith; width = omega arith; short = omega arith };
        next = λ rest. rw (add-one s.tabs) (from_tab s.tabs s.width rest e h);
      })

  pub push_last_tab : b ≡ 9 → 5 ≤ s.tabs
      → PushEnsures line s b line (record { length = s.length; tabs = s.tabs; width = 9 })
  push_last_tab e h =
      push_left_out refl
      (record {
        fits = record { tabs = f.tabs; width = omega arith; short = omega arith };
        next = λ rest. from_last s.tabs s.width rest e h;
      })

  pub push_byte : b ≢ 9 → s.width < 9
      → PushEnsures line s b (set line s.length b)
      (record { length = s.length + 1; tabs = s.tabs; width = s.width + 1 })
  push_byte e h =
      push_kept (omega arith) refl
      (record {
        fits = record { tabs = f.tabs; width = omega arith; short = omega arith };
        next = λ rest. rw (add-one s.width) (from_byte s.tabs s.width rest e h);
      })

  pub push_full : b ≢ 9 → 9 ≤ s.width → PushEnsures line s b line s
  push_full e h = push_left_out refl (record { fits = f; next = λ rest. from_full s.tabs s.width rest e h })
