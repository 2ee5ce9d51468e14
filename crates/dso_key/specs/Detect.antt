-- The key of a path and a mode. The rules in their order: the first that fits decides.
use Rattle.std.specs.Prelude.{ℕ, Bool, cond, ◌||◌, List, Some, None, codes, Option}
use Rattle.std.specs.Option.{option_map}
use Rattle.std.specs.Str.{bytes_eq}
use Rattle.table.specs.Table.{or_else}
use Rattle.text.specs.Pieces.{shown}
use Rattle.dso_key.specs.declared.cpu_mode.CpuMode.{CpuMode}
use Rattle.dso_key.specs.declared.cpu_mode.CpuMode.TheVariants.{Unknown, Kernel, User, Hypervisor, GuestKernel, GuestUser}
use Rattle.dso_key.specs.Keys.{Key, kernel, guest_kernel, vdso32, vdso_x32, vdso64, vsyscall, kernel_module, user, bracketed}
use Rattle.dso_key.specs.Modes.{is_kernel}
use Rattle.dso_key.specs.Paths.{begins, file_name, stem}

-- 1. These whole paths stand for no file.
unfoldable pub is_no_file : List ℕ → Bool
is_no_file path =
    bytes_eq path (codes "//anon") || (bytes_eq path (codes "[stack]") || (bytes_eq path (codes "[heap]") || bytes_eq path (codes "[vvar]")))

-- 2. A beginning `[kernel.kallsyms]` is the kernel, in its mode a guest's.
abbrev pub kernel_by : CpuMode → Key
kernel_by Unknown = kernel
kernel_by Kernel = kernel
kernel_by User = kernel
kernel_by Hypervisor = kernel
kernel_by GuestKernel = guest_kernel
kernel_by GuestUser = kernel

-- 4. These whole paths stand for what the kernel maps into every process.
unfoldable pub vdso_key : List ℕ → Option Key
vdso_key path =
    cond (bytes_eq path (codes "[vdso32]")) (Some vdso32)
    (cond (bytes_eq path (codes "[vdsox32]")) (Some vdso_x32)
    (cond (bytes_eq path (codes "[vdso]")) (Some vdso64)
    (cond (bytes_eq path (codes "[vsyscall]")) (Some vsyscall) None)))

-- 5. and 6. In a kernel's mode a path that begins with a bracket is a module's name, in its shown form; and the file
-- NAME.ko, in whatever directory, is the module [NAME].
abbrev pub module_name : List ℕ → Option (List ℕ)
module_name path = cond (begins (codes "[") path) (Some (shown path)) (option_map (λ name. bracketed (shown name)) (stem (file_name path)))

abbrev pub module_key : Bool → Option (List ℕ) → Option Key
module_key in_kernel name = cond in_kernel (option_map kernel_module name) None

-- 7. Any other path is the kernel in its mode, and so a guest's; a file in a user's.
abbrev pub by_mode : CpuMode → List ℕ → Option Key
by_mode Unknown path = None
by_mode Kernel path = Some kernel
by_mode User path = Some (user path)
by_mode Hypervisor path = None
by_mode GuestKernel path = Some guest_kernel
by_mode GuestUser path = Some (user path)

-- 3. A beginning `[guest.kernel.kallsyms` is a guest's kernel.
unfoldable pub detect : List ℕ → CpuMode → Option Key
detect path mode =
    cond (is_no_file path) None
    (cond (begins (codes "[kernel.kallsyms]") path) (Some (kernel_by mode))
    (cond (begins (codes "[guest.kernel.kallsyms") path) (Some guest_kernel)
    (or_else (vdso_key path)
    (or_else (module_key (is_kernel mode) (module_name path)) (by_mode mode path)))))
