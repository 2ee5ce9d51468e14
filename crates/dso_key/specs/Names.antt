-- The name of a key, and a cursor over it.
use Rattle.std.specs.Prelude.{ℕ, List, ◌++◌, codes}
use Rattle.text.specs.Pieces.{shown}
use Rattle.text.specs.Showing.{to_come as shown_to_come}
use Rattle.dso_key.specs.declared.name.Name.{Name}
use Rattle.dso_key.specs.Keys.{Key, kernel, guest_kernel, vdso32, vdso_x32, vdso64, vsyscall, kernel_module, user}
use Rattle.dso_key.specs.Paths.{file_name}

-- A file's name is the shown form of the part of its path after the last slash.
unfoldable pub name_of : Key → List ℕ
name_of kernel = codes "[kernel.kallsyms]"
name_of guest_kernel = codes "[guest.kernel.kallsyms]"
name_of vdso32 = codes "[vdso32]"
name_of vdso_x32 = codes "[vdsox32]"
name_of vdso64 = codes "[vdso]"
name_of vsyscall = codes "[vsyscall]"
name_of (kernel_module name) = name
name_of (user path) = shown (file_name path)

-- The bytes that a cursor has yet to give.
abbrev pub to_come : Name → List ℕ
to_come n = n.front.now ++ (shown_to_come n.shown ++ n.back.now)
