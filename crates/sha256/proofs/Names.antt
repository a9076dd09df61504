-- Names that an attribute of src/ can say: no Greek letter stands there.
unfoldable pub use Rattle.sha256.specs.Sha256.{Σ0 as big_sigma0, Σ1 as big_sigma1, σ0 as small_sigma0, σ1 as small_sigma1}
