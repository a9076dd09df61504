-- What is told of bytes that a reader refuses, and that it names the file.
use Rattle.std.proofs.Common.{◌≡◌, ℕ, Bool, true, false, cond, List, take, Option, Some, None, Ok, Err, Result, String, inl, inr, refl, sym, ap, ◌∙◌, arith, rules}
use Rattle.std.specs.Prelude.{IfSome, IfOk, IfErr, ◌==◌}
use Rattle.std.specs.declared.alloc.Global.{Global}
use Rattle.paths.specs.Plan.{Task}
use Rattle.tasks.specs.declared.fault.Fault.{Fault as AnyFault}
use Rattle.tasks.specs.Fault.{number}
use Rattle.tasks.specs.Reading.{Got, got, refused, Meets, read_plan}
use Rattle.command.specs.declared.problem.Problem.{Problem}
use Rattle.command.specs.declared.problem.Problem.TheVariants.{InFile, Memory}
use Rattle.command.specs.Files.{names, but_memory, Fails, Unread, RefusesFirst, ReadFrom, Refuses, RefusesPlan}

module _ {X A : Type 0} (view : X → A) (read : List ℕ → Got A) (n : ℕ) (sees : (bs : List ℕ) → read (take n bs) ≡ read bs) where
  -- so many of the bytes are read as all of them are
  whole : (known : Option (List ℕ)) (bs : List ℕ) → IfSome known (λ xs. bs ≡ take n xs) → IfSome known (λ xs. read xs ≡ read bs)
  whole None bs e = tt
  whole (Some xs) bs e = sym (ap read e ∙ sees xs)

  pub reads_known : (known : Option (List ℕ)) (bs : List ℕ) (x : X) → IfSome known (λ xs. bs ≡ take n xs) → Meets view (Ok x) (read bs) → ReadFrom read known (got (view x))
  reads_known known bs x e (inl m) = (bs, whole known bs e, sym m)
  reads_known known bs x e (inr (r, g)) = absurd (grind arith)

  refused_so : (known : Option (List ℕ)) (name : String Global) (p : Problem) (bs : List ℕ) (f : AnyFault) → IfSome known (λ xs. read xs ≡ read bs) → Meets view (Err f) (read bs) → (b : Bool) → (number f == 0) ≡ b → p ≡ cond b Memory (InFile f name) → Refuses read known name p
  refused_so known name p bs f e m true z t = inl (inl t)
  refused_so known name p bs f e (inl m) false z t = inr (f, (bs, e, sym m), t)
  refused_so known name p bs f e (inr (r, g)) false z t = absurd (grind arith)

  pub refuses_known : (refuses : List ℕ → AnyFault → Type 0) → ((bs : List ℕ) (f : AnyFault) → refuses bs f → Meets view (Err f) (read bs)) → (known : Option (List ℕ)) (name : String Global) (p : Problem) → RefusesFirst n known refuses name p → Refuses read known name p
  refuses_known refuses meets known name p (inl u) = inl u
  refuses_known refuses meets known name p (inr (bs, f, e, r, t)) = refused_so known name p bs f (whole known bs e) (meets bs f r) (number f == 0) refl t

  pub if_read : {L P : Type 0} (bytes : L → List ℕ) (value : L → X) (known : Option (List ℕ)) (returns : L → Type 0) → ((l : L) → returns l → Meets view (Ok (value l)) (read (bytes l))) → (r : Result L P) → IfOk r returns → IfOk r (λ l. IfSome known (λ xs. bytes l ≡ take n xs)) → IfOk r (λ l. ReadFrom read known (got (view (value l))))
  if_read bytes value known returns meets (Ok l) v e = reads_known known (bytes l) (value l) e (meets l v)
  if_read bytes value known returns meets (Err p) v e = tt

  pub if_refused : {L : Type 0} (known : Option (List ℕ)) (name : String Global) (refuses : List ℕ → AnyFault → Type 0) → ((bs : List ℕ) (f : AnyFault) → refuses bs f → Meets view (Err f) (read bs)) → (r : Result L Problem) → IfErr r (λ p. RefusesFirst n known refuses name p) → IfErr r (λ p. Refuses read known name p)
  if_refused known name refuses meets (Ok l) t = tt
  if_refused known name refuses meets (Err p) t = refuses_known refuses meets known name p t

pub names_unread : (name : String Global) (p : Problem) → Unread name p → names p name
names_unread name p (inl e) = rw e tt
names_unread name p (inr (e, k, t)) = rw t refl

pub names_refused : {A : Type 0} (read : List ℕ → Got A) (known : Option (List ℕ)) (name : String Global) (p : Problem) → Refuses read known name p → names p name
names_refused read known name p (inl u) = names_unread name p u
names_refused read known name p (inr (f, r, t)) = rw t refl

module _ (t : Task) (known : Option (List ℕ)) (name : String Global) (p : Problem) where
  pub names_plan : RefusesPlan t known name p → names p name
  names_plan (inl r) = names_refused (read_plan t) known name p r
  names_plan (inr (u, q, r, l, e)) = rw e refl

  pub fails_plan : RefusesPlan t known name p → Fails t p
  fails_plan (inl (inl (inl e))) = rw e tt
  fails_plan (inl (inl (inr (e, k, m)))) = rw m tt
  fails_plan (inl (inr (f, r, e))) = rw e tt
  fails_plan (inr (u, q, r, l, e)) = rw e (q, l)
