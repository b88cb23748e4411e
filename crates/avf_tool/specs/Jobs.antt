-- A command of the program, seen as a job.
use Rattle.avf_tool.specs.declared.command.BenchCommand.{BenchCommand}
use Rattle.avf_tool.specs.declared.command.CheckCommand.{CheckCommand}
use Rattle.avf_tool.specs.declared.command.Command.{Command}
use Rattle.avf_tool.specs.declared.command.Command.TheVariants.{Image, Generated, Check, Assembly}
use Rattle.avf_tool.specs.declared.command.ImageCommand.{ImageCommand}
use Rattle.avf_tool.specs.Words.{BenchJob, CheckJob, ImageJob, Job, OnImage, Bench, CheckMap, Assemble}

abbrev pub image_job_of : ImageCommand → ImageJob
image_job_of c = record { shape = c.shape; image = c.image.now; budget = c.budget; task = c.task }

abbrev pub bench_job_of : BenchCommand → BenchJob
bench_job_of c = record { shape = c.shape; number = c.number; size = c.size }

abbrev pub check_job_of : CheckCommand → CheckJob
check_job_of c = record { shape = c.shape; image = c.image.now; budget = c.budget; map = c.map.now }

abbrev pub job_of : Command → Job
job_of (Image c) = OnImage (image_job_of c)
job_of (Generated c) = Bench (bench_job_of c)
job_of (Check c) = CheckMap (check_job_of c)
job_of (Assembly source) = Assemble source.now
