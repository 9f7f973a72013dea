-- Why a script is not served, as a run answers it.
use Rattle.pb_script.specs.declared.serve_fault.ServeFault.{ServeFault}
use Rattle.pb_script.specs.declared.serve_fault.ServeFault.TheVariants as serve
use Rattle.pb_faults.specs.Fault.{merged}
use Rattle.pb_faults.specs.declared.fault.AppFault.{AppFault}
use Rattle.pb_faults.specs.declared.fault.AppFault.TheVariants.{Script, ClerkCount}

-- a script that is not served, as a run answers it
abbrev pub unserved : ServeFault → AppFault
unserved (serve.Script fault) = merged (Script fault)
unserved serve.ClerkCount = ClerkCount
