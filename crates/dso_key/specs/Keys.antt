-- The keys of files: what the code's keys stand for.
use Rattle.std.specs.Prelude.{ℕ, List, [], ◌∷◌, ◌++◌}
use Rattle.text.specs.Pieces.{shown}
use Rattle.dso_key.specs.declared.dso_key.DsoKey.{DsoKey}
use Rattle.dso_key.specs.declared.dso_key.DsoKey.TheVariants.{Kernel, GuestKernel, Vdso32, VdsoX32, Vdso64, Vsyscall, KernelModule, User}
use Rattle.dso_key.specs.declared.dso_key.ModuleName.{ModuleName}
use Rattle.dso_key.specs.declared.dso_key.ModuleName.TheVariants.{Written, Stem}

-- A module goes by its name, a file by its full path.
pub data Key : Type 0 where
  kernel : Key
  guest_kernel : Key
  vdso32 : Key
  vdso_x32 : Key
  vdso64 : Key
  vsyscall : Key
  kernel_module : List ℕ → Key
  user : List ℕ → Key

-- Brackets around a name.
abbrev pub bracketed : List ℕ → List ℕ
bracketed name = 0x5B ∷ (name ++ 0x5D ∷ [])

-- The name of a module, as it is written.
abbrev pub written : ModuleName → List ℕ
written (Written path) = shown path.now
written (Stem name) = bracketed (shown name.now)

abbrev pub key_of : DsoKey → Key
key_of Kernel = kernel
key_of GuestKernel = guest_kernel
key_of Vdso32 = vdso32
key_of VdsoX32 = vdso_x32
key_of Vdso64 = vdso64
key_of Vsyscall = vsyscall
key_of (KernelModule name) = kernel_module (written name)
key_of (User path) = user path.now
