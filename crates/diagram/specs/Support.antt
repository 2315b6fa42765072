-- The mask of the indices on which a tensor depends (document 02, request One).
use Rattle.std.specs.Prelude.{cond, ℕ, zero, suc, ◌+◌, ◌*◌}
use Rattle.diagram.specs.Tensor.{Tensor, Bits, tail, depends}

-- the number whose bit k is f k, for the indices k below d, and that has no bit from d on
unfoldable pub mask_of : ℕ → Bits → ℕ
mask_of zero f = 0
mask_of (suc d) f = cond (f 0) 1 0 + 2 * mask_of d (tail f)

-- "the mask of the indices on which its tensor depends .. Bit k is set exactly when the tensor depends on index k."
unfoldable pub support_mask : {d : ℕ} → Tensor d → ℕ
support_mask {d} T = mask_of d (λ k. depends k T)
